use Rattle.std.proofs.Common.{map}
use Rattle.bl_load.specs.Origins.{planned_origin}
use Rattle.bl_load.proofs.StepOriginLemmas.{same_steps, one_origins}
use Rattle.bl_load.proofs.step_laws.plan_steps_are_determined.Goals as goal

pub returns-clause-steps : goal.returns-clause-steps
returns-clause-steps g c = λ facts value parts others a b.
    (same_steps 0 parts others
    (one_origins facts value (map planned_origin parts) (map planned_origin others) a b)).0

pub returns-clause-own : goal.returns-clause-own
returns-clause-own g c = λ facts value parts others a b.
    (same_steps 0 parts others
    (one_origins facts value (map planned_origin parts) (map planned_origin others) a b)).1
