-- An entry has a part that finds no place exactly where its placing is refused.
use Rattle.std.proofs.Common.{◌≡◌, ℕ, List, [], ◌∷◌, Some, None, ◌⊎◌, inl, inr, refl}
use Rattle.std.specs.declared.ops.Range.{Range}
use Rattle.bl_map.specs.MachineFacts.{MachineFacts}
use Rattle.bl_plan.specs.Placed.{IsFirstPlaceFault, HasChoiceFault}
use Rattle.bl_plan.specs.declared.fault.PlanFault.{PlanFault}
use Rattle.bl_plan.specs.declared.fault.PlanFault.TheVariants as plan_fault
use Rattle.bl_plan.specs.declared.part.Choice.{Choice}
use Rattle.bl_plan.specs.declared.part.Choice.TheVariants.{Fixed, Lowest, Highest, Preferred}
use Rattle.bl_plan.specs.declared.part.Row.{Row}
use Rattle.bl_load.specs.declared.refusal.Refusal.{Refusal}
use Rattle.bl_load.specs.declared.refusal.Refusal.TheVariants as refusal
use Rattle.bl_load.specs.EntryValue.{EntryValue, lines_fault, lines_of}
use Rattle.bl_load.specs.Handover.{Handover}
use Rattle.bl_load.specs.KernelReading.{KernelReading, IsKernelReading}
use Rattle.bl_load.specs.Parts.{IsHandover, IsRefusal, HasPlaceFault, handover_of}
use Rattle.bl_load.specs.Rows.{rows_of}
use Rattle.bl_load.specs.Unplaced.{IsFirstUnplaced, IsUnplaced}
use Rattle.bl_load.proofs.ReadingLaws.{reading_no_overlap}
use Rattle.bl_load.proofs.UnplacedLemmas.{itself_told}

module _ (facts : MachineFacts) where
  -- the row that is told has a fault, and it is the first
  its_fault : (which : Row) (rows : List Row) (taken : List (Range ℕ))
      → IsFirstUnplaced facts taken rows which
      → (fault : PlanFault) × IsFirstPlaceFault facts taken rows fault
  its_fault which [] taken has = absurd has
  its_fault which (row ∷ rows) taken (inl (kind, (fault, here))) = (fault, inl here)
  its_fault which (row ∷ rows) taken (inr (a, chosen, later)) =
      let rest = its_fault which rows _ later in (rest.0, inr (a, chosen, rest.1))

  -- the row of a first fault can be told
  its_row : (fault : PlanFault) (rows : List Row) (taken : List (Range ℕ))
      → IsFirstPlaceFault facts taken rows fault
      → (which : Row) × IsFirstUnplaced facts taken rows which
  its_row fault [] taken has = absurd has
  its_row fault (row ∷ rows) taken (inl here) = (row, inl (itself_told row, (fault, here)))
  its_row fault (row ∷ rows) taken (inr (a, chosen, later)) =
      let rest = its_row fault rows _ later in (rest.0, inr (a, chosen, rest.1))

  choice_in_memory : (taken : List (Range ℕ)) (count : ℕ) (choice : Choice)
      → HasChoiceFault facts taken count choice plan_fault.NoMemory → ⊥
  choice_in_memory taken count (Fixed at) has = has
  choice_in_memory taken count (Lowest align low high) has = has
  choice_in_memory taken count (Highest align low high) has = has
  choice_in_memory taken count (Preferred at align low high) has = has

  -- no place lacks memory
  fault_in_memory : (rows : List Row) (taken : List (Range ℕ))
      → IsFirstPlaceFault facts taken rows plan_fault.NoMemory → ⊥
  fault_in_memory [] taken has = has
  fault_in_memory (row ∷ rows) taken (inl here) = choice_in_memory taken row.length row.choice here
  fault_in_memory (row ∷ rows) taken (inr (a, chosen, later)) = fault_in_memory rows _ later

  module _ (value : EntryValue) where
    refused_by : (reading : KernelReading) (fault : PlanFault)
        → lines_fault (lines_of value) ≡ None → IsKernelReading facts value reading
        → IsFirstPlaceFault facts [] (rows_of facts value reading) fault
        → IsRefusal facts value refusal.NotUsable ⊎ IsRefusal facts value refusal.NoRoom
    refused_by reading plan_fault.NotUsable lines read has =
        inl (inr (lines, inr (reading, read, (plan_fault.NotUsable, has, refl))))
    refused_by reading plan_fault.Overlap lines read has =
        absurd (reading_no_overlap facts value reading read has)
    refused_by reading plan_fault.NoRoom lines read has =
        inr (inr (lines, inr (reading, read, (plan_fault.NoRoom, has, refl))))
    refused_by reading plan_fault.NoMemory lines read has = absurd (fault_in_memory (rows_of facts value reading) [] has)

    pub unplaced_refused : (which : Row) → IsUnplaced facts value (Some which)
        → IsRefusal facts value refusal.NotUsable ⊎ IsRefusal facts value refusal.NoRoom
    unplaced_refused which is =
        let found = its_fault which (rows_of facts value is.reading) [] is.is in
        refused_by is.reading found.0 is.lines is.read found.1

    pub refused_unplaced : (r : Refusal) → lines_fault (lines_of value) ≡ None
        → HasPlaceFault facts value r → (which : Row) × IsUnplaced facts value (Some which)
    refused_unplaced r lines (reading, read, (fault, first, is)) =
        let found = its_row fault (rows_of facts value reading) [] first in (
          found.0,
          record { reading = reading; lines = lines; read = read; is = found.1 },
        )

    pub all_placed : IsUnplaced facts value None → (h : Handover) × IsHandover facts value h
    all_placed is = (
      handover_of facts value is.reading is.is.0,
      record {
        reading = is.reading;
        places = is.is.0;
        lines = is.lines;
        read = is.read;
        placed = is.is.1;
        is = refl;
      },
    )
