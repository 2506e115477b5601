use Rattle.std.proofs.Common.{◌≡◌, ℕ, ◌+◌, ◌-◌, ◌<◌, ◌≤◌, length, get_or}
use Rattle.bl_stage.proofs.view.adjoining.Given as goal

-- the frames so far lie side by side
abbrev pub invariant-loop-end : goal.invariant-loop-end
invariant-loop-end l = record {
  some : l.first < l.end;
  within : l.end ≤ length l.frames;
  side : (k : ℕ) → l.first + k < l.end
      → get_or l.frames (l.first + k) 0 ≡ get_or l.frames l.first 0 + k;
}

abbrev pub decreases-loop-end : goal.decreases-loop-end
decreases-loop-end l = length l.frames - l.end
