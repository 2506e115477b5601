use Rattle.c_abi.proofs.PlanLaws.{one_plan}
use Rattle.c_abi.proofs.plan_laws.plans_are_determined.Goals as goal

pub returns : goal.returns
returns c = one_plan
