-- What only the code keeps: no definition that a reader must believe.
use Rattle.std.specs.Prelude.{◌<◌, ◌≤◌, ℕ, List, All, Option, MatchOption}
use Rattle.std.specs.declared.ops.Range.{Range}
use Rattle.bl_map.specs.MachineFacts.{MachineFacts, IsUsable}
use Rattle.bl_mem.specs.Memory.{IsIn}
use Rattle.bl_plan.specs.declared.part.Window.{Window}
use Rattle.bl_plan.specs.Permitted.{IsPermitted}
use Rattle.bl_plan.specs.PlannerFacts.{AreApartRanges}

-- the address lies in none of these ranges
abbrev pub IsInNone : List (Range ℕ) → ℕ → Type 0
IsInNone ranges a = All (λ range. ¬ IsIn range a) ranges

-- a byte that a part may have, beside the ranges that are taken
abbrev pub IsFree : MachineFacts → List (Range ℕ) → ℕ → Type 0
IsFree facts taken a = IsUsable facts a × IsInNone facts.firmware.avoided a × IsInNone taken a

-- an address that is permitted for so many bytes in a window
abbrev pub IsPermittedIn : MachineFacts → List (Range ℕ) → ℕ → Window → ℕ → Type 0
IsPermittedIn facts taken length window a =
    IsPermitted facts taken length window.align window.low window.high a

-- from start up to end some byte lacks the property, and so does each byte of this stretch, which
-- has that byte
pub record IsBlockedBy (P : ℕ → Type 0) (start end : ℕ) (stretch : Range ℕ) : Type 0 where
  pub forward : stretch.start < stretch.end
  pub meets_end : stretch.start < end
  pub meets_start : start < stretch.end
  pub without : (a : ℕ) → stretch.start ≤ a → a < stretch.end → ¬ P a

-- what is asked for can be searched for: some bytes, at some alignment, beside these ranges
pub record CanSearch (taken : List (Range ℕ)) (bytes : ℕ) (window : Window) : Type 0 where
  pub apart : AreApartRanges taken
  pub filled : 1 ≤ bytes
  pub aligned : 1 ≤ window.align

-- of the addresses with a property the one that is told is found, or there is none
abbrev pub Finds : (ℕ → Type 0) → ((ℕ → Type 0) → ℕ → Type 0) → Option ℕ → Type 0
Finds P IsTheOne found = MatchOption found ((a : ℕ) → ¬ P a) (IsTheOne P)
