use Rattle.std.proofs.Common.{◌≡◌, take, map, All}
use Rattle.bl_load.specs.Origins.{planned_origin, origin_at}
use Rattle.bl_load.specs.Parts.{part_from}
use Rattle.bl_load.specs.PlannedPlaces.{planned_place}
use Rattle.bl_load.specs.PlanContents.{part_by}
use Rattle.bl_load.specs.Loadable.{lengths_of, IsBacked}
use Rattle.bl_load.specs.LeanPlans.{IsLean}
use Rattle.bl_load.specs.internal.CheckedEntries.{texts_in, value_of_files}
use Rattle.bl_load.proofs.parts.parts_at.Given as goal

-- the parts so far are those at the places so far
abbrev pub invariant-loop-place : goal.invariant-loop-place
invariant-loop-place g l =
    let texts = texts_in l.entry in
    record {
      parts : map (part_by texts) l.parts.items
          ≡ map
          (part_from l.entry.machine.now (value_of_files l.entry) (g.K.LoadableKernel.reading l.kernel)
          l.places) (take l.place-index l.sorted);
      backed : All (IsBacked (lengths_of texts)) l.parts.items;
      lean : IsLean l.parts.items;
      places : map planned_place l.parts.items ≡ take l.place-index l.sorted;
      origins : map planned_origin l.parts.items
          ≡ map
          (origin_at l.entry.machine.now (value_of_files l.entry) (g.K.LoadableKernel.reading l.kernel)
          l.places) (take l.place-index l.sorted);
    }
