-- What a planner knows: the machine, and the ranges that are taken. Own.
use Rattle.std.specs.Prelude.{ℕ, ◌<◌, ◌≤◌, List, All, AllPairs}
use Rattle.std.specs.declared.ops.Range.{Range}
use Rattle.bl_map.specs.MachineFacts.{MachineFacts, AllUsable}
use Rattle.bl_plan.specs.AddressOrder.{insert_sorted, range_key}

pub record PlannerFacts : Type 0 where
  pub facts : MachineFacts
  pub taken : List (Range ℕ)

-- ranges are not empty, and ascend with none meeting another
pub record AreApartRanges (ranges : List (Range ℕ)) : Type 0 where
  pub forward : All (λ range. range.start < range.end) ranges
  pub in_order : AllPairs (λ p q. p.end ≤ q.start) ranges

-- so are taken ranges, and each of their bytes is usable
pub record AreTaken (facts : MachineFacts) (taken : List (Range ℕ)) : Type 0 where
  pub apart : AreApartRanges taken
  pub usable : All (λ range. AllUsable facts range.start range.end) taken

-- these ranges with one more, before the first that starts above it
abbrev pub put_in : Range ℕ → List (Range ℕ) → List (Range ℕ)
put_in range taken = insert_sorted range_key range taken

-- the planner with one more range taken
abbrev pub with_taken : PlannerFacts → Range ℕ → PlannerFacts
with_taken planner range = record { facts = planner.facts; taken = put_in range planner.taken }
