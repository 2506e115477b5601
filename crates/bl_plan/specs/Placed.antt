-- The places of an entry's parts, row by row, each against the places before it. Own.
use Rattle.std.specs.Prelude.{◌≡◌, ◌+◌, ◌<◌, ◌≤◌, ◌⊎◌, ℕ, List, [], ◌∷◌}
use Rattle.std.specs.declared.ops.Range.{Range}
use Rattle.bl_map.specs.MachineFacts.{MachineFacts, AllUsable}
use Rattle.bl_mem.specs.Least.{IsLeast, IsGreatest}
use Rattle.bl_plan.specs.Permitted.{AreUntaken, IsPermitted, IsPreferred, HasFixedFault, HasNoRoom}
use Rattle.bl_plan.specs.Permitted.{OrNoMemory, AreUnavoided}
use Rattle.bl_plan.specs.PlannerFacts.{put_in}
use Rattle.bl_plan.specs.declared.part.Choice.{Choice}
use Rattle.bl_plan.specs.declared.part.Choice.TheVariants.{Fixed, Lowest, Highest, Preferred}
use Rattle.bl_plan.specs.declared.fault.PlanFault.{PlanFault}
use Rattle.bl_plan.specs.declared.part.Row.{Row}
use Rattle.bl_plan.specs.declared.part.Place.{Place}

-- the address that a choice asks for, for so many bytes beside what is taken
abbrev pub IsChosen : MachineFacts → List (Range ℕ) → ℕ → Choice → ℕ → Type 0
IsChosen facts taken length (Fixed at) a =
    (a ≡ at) × AllUsable facts at (at + length) × AreUnavoided facts at (at + length)
    × AreUntaken taken at (at + length)
IsChosen facts taken length (Lowest align low high) a =
    IsLeast (IsPermitted facts taken length align low high) a
IsChosen facts taken length (Highest align low high) a =
    IsGreatest (IsPermitted facts taken length align low high) a
IsChosen facts taken length (Preferred at align low high) a =
    IsPreferred at (IsPermitted facts taken length align low high) a

-- the choice can't be met, for this reason
abbrev pub HasChoiceFault : MachineFacts → List (Range ℕ) → ℕ → Choice → PlanFault → Type 0
HasChoiceFault facts taken length (Fixed at) fault =
    HasFixedFault facts taken at (at + length) fault
HasChoiceFault facts taken length (Lowest align low high) fault =
    HasNoRoom (IsPermitted facts taken length align low high) fault
HasChoiceFault facts taken length (Highest align low high) fault =
    HasNoRoom (IsPermitted facts taken length align low high) fault
HasChoiceFault facts taken length (Preferred at align low high) fault =
    HasNoRoom (IsPermitted facts taken length align low high) fault

-- the place of a row at an address
abbrev pub row_place : Row → ℕ → Place
row_place row a = record { role = row.role; index = row.index; address = a; length = row.length }

abbrev pub place_range : Place → Range ℕ
place_range place = record { start = place.address; end = place.address + place.length }

-- these are the places of these rows beside what is taken, each row against the places before it
abbrev pub ArePlaced : MachineFacts → List (Range ℕ) → List Row → List Place → Type 0
ArePlaced facts taken [] [] = Unit {0}
ArePlaced facts taken [] (place ∷ places) = ⊥
ArePlaced facts taken (row ∷ rows) [] = ⊥
ArePlaced facts taken (row ∷ rows) (place ∷ places) =
    IsChosen facts taken row.length row.choice place.address
    × (place ≡ row_place row place.address)
    × ArePlaced facts (put_in (place_range place) taken) rows places

-- the first of these rows that has no place has none for this reason
abbrev pub IsFirstPlaceFault : MachineFacts → List (Range ℕ) → List Row → PlanFault → Type 0
IsFirstPlaceFault facts taken [] fault = ⊥
IsFirstPlaceFault facts taken (row ∷ rows) fault =
    HasChoiceFault facts taken row.length row.choice fault
    ⊎ ((a : ℕ) × IsChosen facts taken row.length row.choice a
    × IsFirstPlaceFault facts (put_in (place_range (row_place row a)) taken) rows fault)

-- a choice aligns to one byte at least
abbrev pub HasPositiveAlignment : Choice → Type 0
HasPositiveAlignment (Fixed at) = Unit {0}
HasPositiveAlignment (Lowest align low high) = 1 ≤ align
HasPositiveAlignment (Highest align low high) = 1 ≤ align
HasPositiveAlignment (Preferred at align low high) = 1 ≤ align

-- a row of some bytes, aligned to one byte at least
pub record IsWellFormedRow (row : Row) : Type 0 where
  pub filled : 1 ≤ row.length
  pub choice : HasPositiveAlignment row.choice

-- why rows are not placed: their first fault, or want of memory
abbrev pub IsPlacingFault : MachineFacts → List Row → PlanFault → Type 0
IsPlacingFault facts rows fault = OrNoMemory (IsFirstPlaceFault facts [] rows) fault

-- each byte of the place is usable
abbrev pub IsPlaceable : MachineFacts → Place → Type 0
IsPlaceable facts place = AllUsable facts place.address (place.address + place.length)

-- no byte of the place is avoided
abbrev pub IsUnavoided : MachineFacts → Place → Type 0
IsUnavoided facts place = AreUnavoided facts place.address (place.address + place.length)

-- a is an address of the place
abbrev pub Covers : Place → ℕ → Type 0
Covers place a = (place.address ≤ a) × (a < place.address + place.length)

-- no address is in both
abbrev pub IsApart : Place → Place → Type 0
IsApart p q = (a : ℕ) → Covers p a → Covers q a → ⊥

-- no byte of the place is taken
abbrev pub IsUntaken : List (Range ℕ) → Place → Type 0
IsUntaken taken place = AreUntaken taken place.address (place.address + place.length)

-- the place has what its row says of it
pub record IsPlaceOf (row : Row) (place : Place) : Type 0 where
  pub role : place.role ≡ row.role
  pub index : place.index ≡ row.index
  pub length : place.length ≡ row.length
