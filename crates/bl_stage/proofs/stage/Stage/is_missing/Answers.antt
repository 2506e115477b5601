use Rattle.std.proofs.Common.{arith}
use Rattle.std.proofs.lemmas.Grind.{common_steps}
use Rattle.bl_stage.proofs.stage.Stage.is_missing.Goals as goal

pub returns-then-index-frames_of : goal.returns-then-index-frames_of
returns-then-index-frames_of g c = grind (arith, common_steps)

pub overflow_add-index : goal.overflow_add-index
overflow_add-index g c = grind (arith, common_steps)

pub index-requires-3 : goal.index-requires-3
index-requires-3 g c = grind (arith, common_steps)

pub returns : goal.returns
returns g c = grind (arith, common_steps)
