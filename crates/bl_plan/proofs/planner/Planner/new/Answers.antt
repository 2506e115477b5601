use Rattle.std.proofs.Common.{rules}
use Rattle.bl_plan.proofs.planner.Planner.new.Goals as goal

pub invariant_of-result : goal.invariant_of-result
invariant_of-result g c = search rules

pub returns-clause-new : goal.returns-clause-new
returns-clause-new g c = search rules
