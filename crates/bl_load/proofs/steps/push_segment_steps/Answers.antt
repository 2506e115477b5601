use Rattle.std.proofs.Common.{arith}
use Rattle.std.proofs.lemmas.Grind.{common_steps}
use Rattle.bl_load.proofs.steps.push_segment_steps.Goals as goal

pub returns : goal.returns
returns g c = grind (arith, common_steps)
