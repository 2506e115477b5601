use Rattle.std.proofs.Common.{◌-◌, ◌≤◌}
use Rattle.bl_mem.proofs.sparse_frames.SparseFrames.gap_end.Given as goal

abbrev pub invariant-loop-at : goal.invariant-loop-at
invariant-loop-at g l = record { from : l.first ≤ l.at; within : l.at ≤ l.end }

abbrev pub decreases-loop-at : goal.decreases-loop-at
decreases-loop-at g l = l.end - l.at
