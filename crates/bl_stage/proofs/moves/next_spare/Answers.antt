use Rattle.std.proofs.Common.{arith}
use Rattle.std.proofs.lemmas.Grind.{common_steps}
use Rattle.bl_stage.proofs.moves.next_spare.Goals as goal

pub len-count-requires : goal.len-count-requires
len-count-requires g c κs = grind (arith, common_steps)

pub loop-at-init : goal.loop-at-init
loop-at-init g c = grind (arith, common_steps)

pub get-requires : goal.get-requires
get-requires g c = grind (arith, common_steps)

pub is_spare-requires : goal.is_spare-requires
is_spare-requires g c = grind (arith, common_steps)

pub loop-at-preserved : goal.loop-at-preserved
loop-at-preserved g c = grind (arith, common_steps)

pub returns : goal.returns
returns g c = grind (arith, common_steps)

pub overflow_add-at : goal.overflow_add-at
overflow_add-at g c = grind (arith, common_steps)

pub loop-at-smaller : goal.loop-at-smaller
loop-at-smaller g c = grind (arith, common_steps)
