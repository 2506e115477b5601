use Rattle.std.proofs.Common.{arith}
use Rattle.std.proofs.lemmas.Grind.{common_steps}
use Rattle.bl_stage.proofs.shut_cells.count_open.Goals as goal

pub overflow_add-open : goal.overflow_add-open
overflow_add-open g c = grind (arith, common_steps)

pub loop-at-preserved : goal.loop-at-preserved
loop-at-preserved g c = grind (arith, common_steps)

pub returns : goal.returns
returns g c = grind (arith, common_steps)
