use Rattle.std.proofs.Common.{arith}
use Rattle.std.proofs.lemmas.Grind.{common_steps}
use Rattle.bl_stage.proofs.stage.Stage.begin_in.Goals as goal

pub hold_all-requires : goal.hold_all-requires
hold_all-requires g c = record {
  empty = grind (arith, common_steps);
  few = grind (arith, common_steps);
  low = grind (arith, common_steps);
  high = grind (arith, common_steps);
  apart = grind (arith, common_steps);
}

pub invariant_of-result : goal.invariant_of-result
invariant_of-result g c = grind (arith, common_steps)
