use Rattle.std.proofs.Common.{arith}
use Rattle.std.proofs.lemmas.Grind.{common_steps}
use Rattle.bl_image.proofs.part_reader.read_small.Goals as goal

pub returns-in_err-read_exact : goal.returns-in_err-read_exact
returns-in_err-read_exact g c = grind (arith, common_steps)

pub returns-in_err-extend_from_slice : goal.returns-in_err-extend_from_slice
returns-in_err-extend_from_slice g c = grind (arith, common_steps)

pub returns : goal.returns
returns g c = grind (arith, common_steps)
