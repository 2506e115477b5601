use Rattle.std.proofs.Common.{arith}
use Rattle.std.proofs.lemmas.Grind.{common_steps}
use Rattle.bl_stage.proofs.scrubbing.next_edge.Goals as goal

pub loop-range-preserved : goal.loop-range-preserved
loop-range-preserved c = grind (arith, common_steps)
