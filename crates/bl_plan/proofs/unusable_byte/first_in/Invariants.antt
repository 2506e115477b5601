use Rattle.std.proofs.Common.{ℕ, ◌<◌, ◌≤◌, All, take}
use Rattle.bl_mem.specs.Memory.{IsIn}
use Rattle.bl_plan.proofs.unusable_byte.first_in.Given as goal

-- none of the ranges so far has an address below this one, which is avoided or is the end
abbrev pub invariant-loop-range : goal.invariant-loop-range
invariant-loop-range l = record {
  from : l.start ≤ l.first;
  within : l.first ≤ l.end;
  before : (a : ℕ) → l.start ≤ a → a < l.first
      → All (λ range. ¬ IsIn range a) (take l.range-index l.ranges);
  behind : l.first < l.end → All (λ range. ¬ IsIn range l.first) l.ranges → ⊥;
}
