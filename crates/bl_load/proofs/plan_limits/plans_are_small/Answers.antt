use Rattle.std.proofs.Common.{ℕ, List, length, map, arith, ap}
use Rattle.bl_load.specs.Origins.{planned_origin}
use Rattle.bl_load.specs.declared.step.Step.{Step}
use Rattle.bl_load.proofs.PlanLimitLemmas.{steps_limit, own_limit}
use Rattle.bl_load.proofs.StepOriginLemmas.{by_origins}
use Rattle.bl_load.proofs.plan_limits.plans_are_small.Goals as goal

pub returns-clause-steps : goal.returns-clause-steps
returns-clause-steps g c = λ facts value parts limits are.
    let same = ap (λ (steps : List Step). length steps) (by_origins 0 parts).0 in
    let few = steps_limit facts value limits (map planned_origin parts) are in
    omega (arith, same, few)

pub returns-clause-own : goal.returns-clause-own
returns-clause-own g c = λ facts value parts machine limits sound are.
    let same = ap (λ (bytes : List ℕ). length bytes) (by_origins 0 parts).1 in
    let few = own_limit facts value limits machine sound (map planned_origin parts) are in
    omega (arith, same, few)
