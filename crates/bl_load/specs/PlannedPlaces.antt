-- The place of what is planned.
use Rattle.bl_plan.specs.declared.part.Place.{Place}
use Rattle.bl_load.specs.declared.plan.PlannedPart.{PlannedPart}

abbrev pub planned_place : {A : Type 0} → PlannedPart A → Place
planned_place part = part.place
