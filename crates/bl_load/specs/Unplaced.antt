-- Which of an entry's parts is the first that finds no place. Own.
use Rattle.std.specs.Prelude.{◌≡◌, ◌<◌, ◌⊎◌, ℕ, List, [], ◌∷◌, Option, Some, None}
use Rattle.std.specs.declared.ops.Range.{Range}
use Rattle.bl_map.specs.MachineFacts.{MachineFacts}
use Rattle.bl_map.specs.Limits.{max_size}
use Rattle.bl_plan.specs.declared.fault.PlanFault.{PlanFault}
use Rattle.bl_plan.specs.declared.part.Row.{Row}
use Rattle.bl_plan.specs.declared.part.Place.{Place}
use Rattle.bl_plan.specs.Placed.{ArePlaced, IsChosen, HasChoiceFault, row_place, place_range}
use Rattle.bl_plan.specs.PlannerFacts.{put_in}
use Rattle.bl_load.specs.declared.refusal.PrepFault.{PrepFault}
use Rattle.bl_load.specs.declared.refusal.PrepFault.TheVariants as prep_fault
use Rattle.bl_load.specs.Parts.{OrRefused}
use Rattle.bl_load.specs.KernelReading.{KernelReading, IsKernelReading, HasKernelFileFault}
use Rattle.bl_load.specs.Rows.{rows_of}
use Rattle.bl_load.specs.EntryValue.{EntryValue, lines_fault, lines_of}

-- a row is told: with its own length, or, where that is above 4 GiB, with some length above 4 GiB
pub record IsToldAs (row which : Row) : Type 0 where
  pub role : which.role ≡ row.role
  pub index : which.index ≡ row.index
  pub choice : which.choice ≡ row.choice
  pub length : (which.length ≡ row.length)
      ⊎ ((max_size < which.length) × (max_size < row.length))

-- the first of these rows that has no place beside what is taken is told so; each row before it has
-- the place that its choice asks for
abbrev pub IsFirstUnplaced : MachineFacts → List (Range ℕ) → List Row → Row → Type 0
IsFirstUnplaced facts taken [] which = ⊥
IsFirstUnplaced facts taken (row ∷ rows) which =
    (IsToldAs row which
    × ((fault : PlanFault) × HasChoiceFault facts taken row.length row.choice fault))
    ⊎ ((a : ℕ) × IsChosen facts taken row.length row.choice a
    × IsFirstUnplaced facts (put_in (place_range (row_place row a)) taken) rows which)

-- which of these rows has no place beside what is taken: none, where each has its place
abbrev pub IsUnplacedOf : MachineFacts → List (Range ℕ) → List Row → Option Row → Type 0
IsUnplacedOf facts taken rows None = (places : List Place) × ArePlaced facts taken rows places
IsUnplacedOf facts taken rows (Some which) = IsFirstUnplaced facts taken rows which

-- the entry's lines have no fault, its kernel is read, and this of its rows has no place
pub record IsUnplaced (facts : MachineFacts) (value : EntryValue)
    (which : Option Row) : Type 0 where
  pub reading : KernelReading
  pub lines : lines_fault (lines_of value) ≡ None
  pub read : IsKernelReading facts value reading
  pub is : IsUnplacedOf facts [] (rows_of facts value reading) which

-- why no place is looked for: the first refusal of its lines and its kernel, or want of memory
abbrev pub IsFaultBeforePlacing : MachineFacts → EntryValue → PrepFault → Type 0
IsFaultBeforePlacing facts value (prep_fault.Refused refused) =
    OrRefused (lines_fault (lines_of value)) (HasKernelFileFault facts value) refused
IsFaultBeforePlacing facts value prep_fault.NoMemory = Unit {0}
