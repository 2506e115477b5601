-- What the code's own functions plan.
use Rattle.std.specs.Prelude.{ℕ, List, map}
use Rattle.bl_map.specs.MachineFacts.{MachineFacts}
use Rattle.bl_mem.specs.declared.byte_view.ByteView.{Ghosts}
use Rattle.bl_load.specs.declared.checked_entry.CheckedEntry.{CheckedEntry}
use Rattle.bl_load.specs.declared.plan.Plan.{Plan}
use Rattle.bl_load.specs.EntryValue.{EntryValue}
use Rattle.bl_load.specs.KernelReading.{KernelReading}
use Rattle.bl_load.specs.Loadable.{lengths_of, IsLoadable}
use Rattle.bl_load.specs.LeanPlans.{IsLean}
use Rattle.bl_load.specs.Origins.{planned_origin, AreOrigins}
use Rattle.bl_load.specs.Parts.{IsHandover}
use Rattle.bl_load.specs.PlanContents.{handover_by}
use Rattle.bl_load.specs.internal.CheckedEntries.{texts_in, value_of_files}
use Rattle.bl_load.specs.internal.Placing.{IsPlacedHandover}

-- what is loaded for an entry of this value, whose files hold these texts
pub record IsPlanOfValue {A : Type 0} (facts : MachineFacts) (texts : List (List ℕ))
    (value : EntryValue) (plan : Plan A) : Type 0 where
  -- it loads what the definition hands over
  pub handover : IsHandover facts value (handover_by texts plan)
  -- it can be loaded out of the files into memory of the machine's size
  pub loadable : IsLoadable (lengths_of texts) facts.size plan
  -- it holds none of the files' bytes
  pub lean : IsLean plan.parts.items
  -- its bytes come from where the definition has them from
  pub origins : AreOrigins facts value (map planned_origin plan.parts.items)

-- what is loaded for an entry whose kernel was read so: its parts, placed by their rows
pub record IsPlacedPlan {A B V : Type 0} {view : Ghosts V} (entry : CheckedEntry B V view)
    (reading : KernelReading) (plan : Plan A) : Type 0 where
  pub handover :
      IsPlacedHandover entry.machine.now (value_of_files entry) reading
      (handover_by (texts_in entry) plan)
  pub loadable : IsLoadable (lengths_of (texts_in entry)) entry.machine.now.size plan
  pub lean : IsLean plan.parts.items
  pub origins :
      AreOrigins entry.machine.now (value_of_files entry) (map planned_origin plan.parts.items)
