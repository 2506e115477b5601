use Rattle.std.proofs.Common.{Ok, Err, refl, arith}
use Rattle.c_abi.specs.internal.Plans.{plan_facts}
use Rattle.c_abi.proofs.PlanLemmas.{count_places}
use Rattle.c_abi.proofs.planning.plan_told.Goals as goal

pub tell_stepped-requires-clause-few : goal.tell_stepped-requires-clause-few
tell_stepped-requires-clause-few g c =
    let few = c.in-Ok.ensures.planned.few_places in
    omega (arith, few, count_places c.in-Ok.made.plan.parts.items)

pub returns-in-Ok : goal.returns-in-Ok
returns-in-Ok g c =
    (Ok (plan_facts c.in-Ok.made), c.in-Ok.ensures.planned, (c.tell_stepped.ensures, refl))

pub returns-in-Err : goal.returns-in-Err
returns-in-Err g c = (
  Err c.in-Err.fault,
  c.in-Err.ensures.fault,
  (c.tell_load_fault.ensures.status, refl, c.tell_load_fault.ensures.refusal),
)
