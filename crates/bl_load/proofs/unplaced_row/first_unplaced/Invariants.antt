use Rattle.std.proofs.Common.{◌≡◌, List, [], drop}
use Rattle.bl_plan.specs.declared.part.Place.{Place}
use Rattle.bl_plan.specs.declared.part.Row.{Row}
use Rattle.bl_plan.specs.Placed.{ArePlaced}
use Rattle.bl_load.specs.Unplaced.{IsFirstUnplaced}
use Rattle.bl_load.proofs.unplaced_row.first_unplaced.Given as goal

-- where the rest has places all have, and what is first without one in the rest is so in all
abbrev pub invariant-loop-row : goal.invariant-loop-row
invariant-loop-row g l = record {
  machine : l.planner.facts ≡ l.machine;
  placed : ((places : List Place)
      × ArePlaced l.machine l.planner.taken (drop l.row-index l.rows) places)
      → ((places : List Place) × ArePlaced l.machine [] l.rows places);
  unplaced : (which : Row)
      → IsFirstUnplaced l.machine l.planner.taken (drop l.row-index l.rows) which
      → IsFirstUnplaced l.machine [] l.rows which;
}
