use Rattle.std.proofs.Common.{ℕ, ◌<◌, ◌≤◌, All, take}
use Rattle.bl_mem.specs.Memory.{IsIn}
use Rattle.bl_plan.proofs.blocked_stretch.meeting_range.Given as goal

-- none of the bytes lies in one of the ranges so far
abbrev pub invariant-loop-range : goal.invariant-loop-range
invariant-loop-range l =
    (a : ℕ) → l.start ≤ a → a < l.end
    → All (λ range. ¬ IsIn range a) (take l.range-index l.ranges)
