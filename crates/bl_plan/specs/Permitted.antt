-- Which addresses are permitted for a part, and which of them is chosen. Own.
use Rattle.std.specs.Prelude.{◌≡◌, ◌+◌, ◌%◌, ◌<◌, ◌≤◌, ◌⊎◌, ℕ, List, All}
use Rattle.std.specs.declared.ops.Range.{Range}
use Rattle.bl_map.specs.MachineFacts.{MachineFacts, AllUsable}
use Rattle.bl_mem.specs.Memory.{IsIn}
use Rattle.bl_mem.specs.Least.{IsLeast, IsGreatest}
use Rattle.bl_plan.specs.declared.part.Side.{Side}
use Rattle.bl_plan.specs.declared.part.Side.TheVariants.{Lowest, Highest}
use Rattle.bl_plan.specs.declared.fault.PlanFault.{PlanFault}
use Rattle.bl_plan.specs.declared.fault.PlanFault.TheVariants.{NotUsable, Overlap, NoRoom, NoMemory}

-- no address from start up to end is taken
abbrev pub AreUntaken : List (Range ℕ) → ℕ → ℕ → Type 0
AreUntaken taken start end = (a : ℕ) → start ≤ a → a < end → All (λ range. ¬ IsIn range a) taken

-- no address from start up to end is avoided
abbrev pub AreUnavoided : MachineFacts → ℕ → ℕ → Type 0
AreUnavoided facts start end = AreUntaken facts.firmware.avoided start end

-- an address at which so many bytes lie between low and high, all usable, none avoided, none in a
-- taken range
pub record IsPermitted (facts : MachineFacts) (taken : List (Range ℕ))
    (length align low high a : ℕ) : Type 0 where
  pub aligned : a % align ≡ 0
  pub above : low ≤ a
  pub below : a + length ≤ high
  pub usable : AllUsable facts a (a + length)
  pub unavoided : AreUnavoided facts a (a + length)
  pub apart : AreUntaken taken a (a + length)

-- of the numbers with a property, the one at this side
abbrev pub IsAtSide : Side → (ℕ → Type 0) → ℕ → Type 0
IsAtSide Lowest P a = IsLeast P a
IsAtSide Highest P a = IsGreatest P a

-- the wanted number where it has the property, else the least that has it
abbrev pub IsPreferred : ℕ → (ℕ → Type 0) → ℕ → Type 0
IsPreferred at P a = (P at × (a ≡ at)) ⊎ ((¬ P at) × IsLeast P a)

-- these addresses are refused for this reason
abbrev pub HasFixedFault : MachineFacts → List (Range ℕ) → ℕ → ℕ → PlanFault → Type 0
HasFixedFault facts taken start end NotUsable =
    ¬ (AllUsable facts start end × AreUnavoided facts start end)
HasFixedFault facts taken start end Overlap =
    AllUsable facts start end × AreUnavoided facts start end × (¬ AreUntaken taken start end)
HasFixedFault facts taken start end NoRoom = ⊥
HasFixedFault facts taken start end NoMemory = ⊥

-- no number has the property, which is answered as want of room
abbrev pub HasNoRoom : (ℕ → Type 0) → PlanFault → Type 0
HasNoRoom P NotUsable = ⊥
HasNoRoom P Overlap = ⊥
HasNoRoom P NoRoom = (a : ℕ) → ¬ P a
HasNoRoom P NoMemory = ⊥

-- a fault that stands, or want of memory, which may come at any growth
abbrev pub OrNoMemory : (PlanFault → Type 0) → PlanFault → Type 0
OrNoMemory P NotUsable = P NotUsable
OrNoMemory P Overlap = P Overlap
OrNoMemory P NoRoom = P NoRoom
OrNoMemory P NoMemory = Unit {0}
