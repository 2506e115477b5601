-- A fault of placing refuses the entry.
use Rattle.std.proofs.Common.{◌≡◌, List, Some, refl, subst}
use Rattle.std.proofs.lemmas.Option.{same_Some}
use Rattle.bl_map.specs.MachineFacts.{MachineFacts}
use Rattle.bl_plan.specs.declared.fault.PlanFault.{PlanFault}
use Rattle.bl_plan.specs.declared.fault.PlanFault.TheVariants as plan_fault
use Rattle.bl_plan.specs.Placed.{IsPlacingFault}
use Rattle.bl_load.specs.declared.refusal.PrepFault.{PrepFault}
use Rattle.bl_plan.specs.declared.part.Row.{Row}
use Rattle.bl_load.specs.internal.Placing.{as_prep_fault, IsPlaceFault}

pub refused_place : (facts : MachineFacts) (rows : List Row) (fault : PlanFault)
    (result : PrepFault) → IsPlacingFault facts rows fault → as_prep_fault fault ≡ Some result
    → IsPlaceFault facts rows result
refused_place facts rows plan_fault.NotUsable result h e =
    subst (IsPlaceFault facts rows) (same_Some _ _ e) (plan_fault.NotUsable, h, refl)
refused_place facts rows plan_fault.Overlap result h e = absurd cc
refused_place facts rows plan_fault.NoRoom result h e =
    subst (IsPlaceFault facts rows) (same_Some _ _ e) (plan_fault.NoRoom, h, refl)
refused_place facts rows plan_fault.NoMemory result h e =
    subst (IsPlaceFault facts rows) (same_Some _ _ e) tt
