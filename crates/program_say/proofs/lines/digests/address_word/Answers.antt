use Rattle.std.proofs.Common.{arith, ◌≡◌, ◌∙◌, ◌^◌, ◌-◌}
use Rattle.std.specs.Prelude.{string_bytes}
use Rattle.std.proofs.lemmas.Grind.{common_steps}
use Rattle.program_say.proofs.AddressLemmas.{hex8_hole, hex8_is}
use Rattle.program_say.proofs.lines.digests.address_word.Goals as goal

pub returns : goal.returns
returns g c =
    let limit = 2 ^ 64 - 1 in
    let hole : string_bytes c.in_ok-word.word ≡ hex8_hole limit c.args.address =
    grind (arith, common_steps) in
    hole ∙ hex8_is limit c.args.address
