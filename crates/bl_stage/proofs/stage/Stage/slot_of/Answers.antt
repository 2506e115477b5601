use Rattle.std.proofs.Common.{arith}
use Rattle.std.proofs.lemmas.Grind.{common_steps}
use Rattle.bl_stage.proofs.stage.Stage.slot_of.Goals as goal

pub returns-then-index-frames_of-clause-value : goal.returns-then-index-frames_of-clause-value
returns-then-index-frames_of-clause-value g c = grind (arith, common_steps)

pub returns-then-len-min-clause-value : goal.returns-then-len-min-clause-value
returns-then-len-min-clause-value g c = grind (arith, common_steps)

pub overflow_add-result : goal.overflow_add-result
overflow_add-result g c = grind (arith, common_steps)

pub returns-clause-value : goal.returns-clause-value
returns-clause-value g c = grind (arith, common_steps)

pub returns-clause-within : goal.returns-clause-within
returns-clause-within g c = grind (arith, common_steps)
