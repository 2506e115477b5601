use Rattle.std.proofs.Common.{◌≡◌, take, map}
use Rattle.bl_plan.specs.Placed.{place_range}
use Rattle.bl_load.specs.PlannedPlaces.{planned_place}
use Rattle.bl_load.proofs.placing.ranges_of.Given as goal

-- the ranges so far
abbrev pub invariant-loop-part : goal.invariant-loop-part
invariant-loop-part g l = l.ranges.items
    ≡ map place_range (map planned_place (take l.part-index l.parts))
