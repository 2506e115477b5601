use Rattle.std.proofs.Common.{arith}
use Rattle.std.proofs.lemmas.Grind.{common_steps}
use Rattle.bl_image.proofs.handoff_image.part_of.Goals as goal

pub returns-in_err-held : goal.returns-in_err-held
returns-in_err-held g c = grind (arith, common_steps)

pub returns : goal.returns
returns g c = grind (arith, common_steps)
