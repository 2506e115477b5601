use Rattle.std.proofs.Common.{◌≡◌, ◌+◌, ◌≤◌, ◌++◌, List, [], drop, All}
use Rattle.bl_plan.specs.declared.part.Place.{Place}
use Rattle.bl_plan.specs.declared.fault.PlanFault.{PlanFault}
use Rattle.bl_plan.specs.Placed.{ArePlaced, IsFirstPlaceFault}
use Rattle.bl_plan.proofs.placing.place_rows.Given as goal

-- what places the rest completes the places so far, and what refuses the rest refuses all
abbrev pub invariant-loop-row : goal.invariant-loop-row
invariant-loop-row g l = record {
  machine : l.planner.facts ≡ l.machine;
  rest : (places : List Place)
      → ArePlaced l.machine l.planner.taken (drop l.row-index l.rows) places
      → ArePlaced l.machine [] l.rows (l.places.items ++ places);
  refused : (fault : PlanFault)
      → IsFirstPlaceFault l.machine l.planner.taken (drop l.row-index l.rows) fault
      → IsFirstPlaceFault l.machine [] l.rows fault;
  below : All (λ place. place.address + place.length ≤ 0xFFFFF000) l.places.items;
}
