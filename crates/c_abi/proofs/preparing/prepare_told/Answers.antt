use Rattle.std.proofs.Common.{Ok, Err, refl}
use Rattle.bl_load.specs.PlanContents.{handoff_by}
use Rattle.c_abi.proofs.preparing.prepare_told.Goals as goal

pub returns-in-Ok : goal.returns-in-Ok
returns-in-Ok g c = (
  Ok (handoff_by c.in-Ok.plan),
  c.in-Ok.ensures.prepared,
  record {
    status_is = refl;
    handoff_is = c.tell_plan.ensures.handoff;
    places_are = c.tell_plan.ensures.places;
    refusal_is = refl;
  },
)

pub returns-in-Err : goal.returns-in-Err
returns-in-Err g c = (
  Err c.in-Err.fault,
  c.in-Err.ensures.fault,
  record {
    status_is = c.tell_load_fault.ensures.status;
    handoff_is = refl;
    places_are = refl;
    refusal_is = c.tell_load_fault.ensures.refusal;
  },
)
