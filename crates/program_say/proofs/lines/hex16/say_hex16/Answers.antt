use Rattle.std.proofs.Common.{arith, ◌≡◌, ◌++◌, OnOk}
use Rattle.std.proofs.lemmas.Grind.{common_steps}
use Rattle.program_say.proofs.HexLemmas.{hex_hole, hex16_hole}
use Rattle.program_say.specs.BootAndMapLines.{hex16_between}
use Rattle.program_say.proofs.lines.hex16.say_hex16.Goals as goal

pub returns : goal.returns
unfolding hex16_between
returns g c =
    let n = c.args.number in
    let shown : OnOk c.say_shown.result
    (c.say_shown.new.out.items
    ≡ c.args.out.now.items ++ (c.args.before.now ++ hex_hole n ++ c.args.behind.now)) =
    grind (arith, common_steps) in
    rw (hex16_hole n) at shown
