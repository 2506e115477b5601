-- Where permitted addresses lie.
use Rattle.std.proofs.Common.{◌≤◌, ◌+◌, ◌-◌, ℕ, List, arith}
use Rattle.std.specs.declared.ops.Range.{Range}
use Rattle.bl_map.specs.MachineFacts.{MachineFacts}
use Rattle.bl_plan.specs.Permitted.{IsPermitted, IsAtSide}
use Rattle.bl_plan.specs.declared.part.Side.{Side}
use Rattle.bl_plan.specs.declared.part.Side.TheVariants.{Lowest, Highest}

-- a permitted range ends in the room of usable memory
pub ends_in_room : (facts : MachineFacts) (taken : List (Range ℕ))
    (length align low high a room : ℕ) → 1 ≤ length
    → ((n : ℕ) → n ≤ high → n ≤ facts.size → n ≤ 0xFFFFF000 → n ≤ room)
    → IsPermitted facts taken length align low high a → a + length ≤ room
ends_in_room facts taken length align low high a room some greatest p =
    let last = p.usable (a + length - 1) (omega arith) (omega arith) in
    greatest (a + length) p.below (omega (arith, last.in_size)) (omega (arith, last.below))

pub starts_in_room : (facts : MachineFacts) (taken : List (Range ℕ)) (length align low high a : ℕ)
    → 1 ≤ length
    → IsPermitted facts taken length align low high a → 4096 ≤ a
starts_in_room facts taken length align low high a some p =
    (p.usable a (omega arith) (omega arith)).above

pub ends_below : (facts : MachineFacts) (taken : List (Range ℕ)) (length align low high a : ℕ)
    → 1 ≤ length
    → IsPermitted facts taken length align low high a → a + length ≤ 0xFFFFF000
ends_below facts taken length align low high a some p =
    let last = p.usable (a + length - 1) (omega arith) (omega arith) in omega (arith, last.below)

-- what is at a side has the property
pub at_side_permitted : (side : Side) (P : ℕ → Type 0) (a : ℕ) → IsAtSide side P a → P a
at_side_permitted Lowest P a h = h.holds
at_side_permitted Highest P a h = h.holds
