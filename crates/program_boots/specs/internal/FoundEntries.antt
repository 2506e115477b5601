-- What the code keeps of an entry of a description and its files. Own.
use Rattle.std.specs.Prelude.{◌≡◌, ℕ, List, length, map}
use Rattle.bl_map.specs.MachineFacts.{MachineFacts}
use Rattle.bl_load.specs.EntryValue.{EntryValue, value_of, file_count, IsWithinLimits}
use Rattle.bl_load.specs.Loadable.{lengths_of, IsLoadable}
use Rattle.bl_load.specs.Origins.{planned_origin, AreOrigins}
use Rattle.bl_load.specs.Parts.{IsHandover}
use Rattle.bl_load.specs.PlanContents.{handover_by}
use Rattle.bl_load.specs.declared.plan.Plan.{Plan}
use Rattle.bl_mem.specs.declared.byte_view.SliceView.{SliceView}
use Rattle.program_desc.specs.Entries.{Entry}
use Rattle.program_boots.specs.explaining.Details.{value_sought}
use Rattle.program_boots.specs.declared.explaining.found_entry.FoundEntry.{FoundEntry}
use Rattle.program_say.specs.Sought.{SoughtFacts}

-- the bytes of files
abbrev pub texts_of_views : List SliceView → List (List ℕ)
texts_of_views files = map (λ file. file.bytes.now) files

-- an entry of a description, with what was found for the names of its files; there is a file for
-- each place of one
pub record IsFoundEntry {A : Type 0} (sought : SoughtFacts) (row : Entry) (found : FoundEntry A)
    : Type 0 where
  pub value : value_of (texts_of_views found.files.items) found.entry ≡ value_sought sought row
  pub files : length found.files.items ≡ file_count found.entry
  pub limits : IsWithinLimits found.entry

-- what is loaded for an entry of this value, with the bytes of some files
pub record IsFoundPlan {A : Type 0} (facts : MachineFacts) (value : EntryValue) (plan : Plan A)
    : Type 0 where
  pub texts : List (List ℕ)
  pub handover : IsHandover facts value (handover_by texts plan)
  pub loadable : IsLoadable (lengths_of texts) facts.size plan
  pub origins : AreOrigins facts value (map planned_origin plan.parts.items)
