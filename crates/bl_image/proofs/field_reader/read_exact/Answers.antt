use Rattle.std.proofs.Common.{arith}
use Rattle.std.proofs.lemmas.Grind.{common_steps}
use Rattle.bl_image.proofs.field_reader.read_exact.Goals as goal

pub returns-in_err-fill : goal.returns-in_err-fill
returns-in_err-fill g c = grind (arith, common_steps)

pub returns-then-branch-out : goal.returns-then-branch-out
returns-then-branch-out g c = grind (arith, common_steps)

pub returns : goal.returns
returns g c = grind (arith, common_steps)
