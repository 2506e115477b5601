use Rattle.std.proofs.Common.{ℕ, ◌≡◌, ◌≤◌, ◌+◌, ◌%◌}
use Rattle.bl_plan.specs.internal.FreeBytes.{IsPermittedIn}
use Rattle.bl_plan.proofs.search.greatest_place.Given as goal

-- no address above this one is permitted
abbrev pub invariant-loop-at : goal.invariant-loop-at
invariant-loop-at g l = record {
  multiple : l.at % l.window.align ≡ 0;
  in_end : l.at + l.length ≤ l.end;
  none : (a : ℕ) → IsPermittedIn l.machine l.taken l.length l.window a → a ≤ l.at;
}

abbrev pub decreases-loop-at : goal.decreases-loop-at
decreases-loop-at g l = l.at
