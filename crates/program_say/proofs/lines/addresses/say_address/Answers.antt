use Rattle.std.proofs.Common.{arith, ◌≡◌, ◌++◌, ◌^◌, ◌-◌, OnOk}
use Rattle.std.proofs.lemmas.Grind.{common_steps}
use Rattle.program_say.proofs.AddressLemmas.{hex8_hole, hex8_is}
use Rattle.program_say.specs.Addresses.{address_words}
use Rattle.program_say.proofs.lines.addresses.say_address.Goals as goal

pub returns : goal.returns
unfolding address_words
returns g c =
    let a = c.args.address in
    let limit = 2 ^ 64 - 1 in
    let shown : OnOk c.say_shown.result
    (c.say_shown.new.out.items
    ≡ c.args.out.now.items ++ (c.args.before.now ++ hex8_hole limit a ++ c.args.behind.now)) =
    grind (arith, common_steps) in
    rw (hex8_is limit a) at shown
