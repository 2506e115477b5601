use Rattle.std.proofs.Common.{ℕ, ◌≡◌, ◌≤◌, ◌-◌, ◌%◌}
use Rattle.bl_plan.specs.internal.FreeBytes.{IsPermittedIn}
use Rattle.bl_plan.proofs.search.least_place.Given as goal

-- no address below this one is permitted
abbrev pub invariant-loop-at : goal.invariant-loop-at
invariant-loop-at g l = record {
  multiple : l.at % l.window.align ≡ 0;
  above : 4096 ≤ l.at;
  from_low : l.window.low ≤ l.at;
  none : (a : ℕ) → IsPermittedIn l.machine l.taken l.length l.window a → l.at ≤ a;
}

abbrev pub decreases-loop-at : goal.decreases-loop-at
decreases-loop-at g l = l.end - l.at
