-- A legal handover: whatever places were chosen, each part has one that is permitted for it. Own.
use Rattle.std.specs.Prelude.{◌≡◌, ◌+◌, ℕ, List, map, Some, None}
use Rattle.std.specs.List.{AllZip, remove, slice_get}
use Rattle.std.specs.declared.ops.Range.{Range}
use Rattle.bl_map.specs.MachineFacts.{MachineFacts, AllUsable}
use Rattle.bl_plan.specs.Permitted.{AreUntaken, AreUnavoided, IsPermitted}
use Rattle.bl_plan.specs.Placed.{IsPlaceOf, place_range}
use Rattle.bl_plan.specs.declared.part.Choice.{Choice}
use Rattle.bl_plan.specs.declared.part.Choice.TheVariants.{Fixed, Lowest, Highest, Preferred}
use Rattle.bl_plan.specs.declared.part.Row.{Row}
use Rattle.bl_plan.specs.declared.part.Place.{Place}
use Rattle.bl_load.specs.EntryValue.{EntryValue, lines_fault, lines_of}
use Rattle.bl_load.specs.KernelReading.{KernelReading, IsKernelReading}
use Rattle.bl_load.specs.Rows.{rows_of}
use Rattle.bl_load.specs.Handover.{Handover}
use Rattle.bl_load.specs.Parts.{handover_of}

-- an address that a row's choice allows for so many bytes beside these ranges and those that are
-- avoided: the fixed one, or any within its limits; that it is the lowest, the highest or the
-- preferred one is not asked
abbrev pub IsAllowed : MachineFacts → List (Range ℕ) → ℕ → Choice → ℕ → Type 0
IsAllowed facts ranges length (Fixed at) a =
    (a ≡ at) × AllUsable facts a (a + length) × AreUnavoided facts a (a + length)
    × AreUntaken ranges a (a + length)
IsAllowed facts ranges length (Lowest align low high) a =
    IsPermitted facts ranges length align low high a
IsAllowed facts ranges length (Highest align low high) a =
    IsPermitted facts ranges length align low high a
IsAllowed facts ranges length (Preferred at align low high) a =
    IsPermitted facts ranges length align low high a

-- the ranges of all places but the i-th
abbrev pub other_ranges : List Place → ℕ → List (Range ℕ)
other_ranges places i = map place_range (remove places i)

-- each place is allowed for its row, which has the same index, beside all others
abbrev pub AreAllowed : MachineFacts → List Row → List Place → Type 0
AreAllowed facts rows places =
    (i : ℕ) (row : Row) (place : Place) → slice_get rows i ≡ Some row
    → slice_get places i ≡ Some place
    → IsAllowed facts (other_ranges places i) row.length row.choice place.address

-- the entry's kernel is read so; there is one place for each of its rows and no other, each allowed
-- beside all others; and what is handed over are the parts at these places, with the registers for
-- them
pub record IsLegal (facts : MachineFacts) (value : EntryValue) (handover : Handover) : Type 0 where
  pub reading : KernelReading
  pub places : List Place
  pub lines : lines_fault (lines_of value) ≡ None
  pub read : IsKernelReading facts value reading
  pub of_rows : AllZip IsPlaceOf (rows_of facts value reading) places
  pub allowed : AreAllowed facts (rows_of facts value reading) places
  pub is : handover ≡ handover_of facts value reading places
