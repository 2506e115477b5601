use Rattle.bl_load.proofs.StepOriginLemmas.{by_origins}
use Rattle.bl_load.proofs.step_laws.plan_steps_are_those_of_origins.Goals as goal

pub returns-clause-steps : goal.returns-clause-steps
returns-clause-steps g c = λ parts. (by_origins 0 parts).0

pub returns-clause-own : goal.returns-clause-own
returns-clause-own g c = λ parts. (by_origins 0 parts).1
