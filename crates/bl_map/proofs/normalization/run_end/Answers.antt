use Rattle.std.proofs.Common.{arith}
use Rattle.std.proofs.lemmas.Grind.{common_steps}
use Rattle.bl_map.proofs.normalization.run_end.Goals as goal

pub loop-end-preserved : goal.loop-end-preserved
loop-end-preserved c = grind (arith, common_steps)

pub returns-then-known_number-number-clause-same : goal.returns-then-known_number-number-clause-same
returns-then-known_number-number-clause-same c = grind (arith, common_steps)

pub returns-then-known_number-number-clause-other : goal.returns-then-known_number-number-clause-other
returns-then-known_number-number-clause-other c = grind (arith, common_steps)

pub returns-clause-same : goal.returns-clause-same
returns-clause-same c = grind (arith, common_steps)

pub returns-clause-other : goal.returns-clause-other
returns-clause-other c = grind (arith, common_steps)
