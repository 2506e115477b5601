use Rattle.std.proofs.Common.{◌≡◌, ◌-◌, ◌+◌, ◌*◌, ◌<◌, ℕ, Some}
use Rattle.bl_mem.specs.FrameState.{slot_read}
use Rattle.bl_mem.specs.SparseFrames.{frame_numbered}
use Rattle.bl_mem.proofs.sparse_frames.SparseFrames.are_together.Given as goal

-- the frames so far do
abbrev pub invariant-loop-index : goal.invariant-loop-index
invariant-loop-index g l =
    record {
      within : 4096 * l.index < l.count + 4096;
      made : (k : ℕ) → k < l.index
          → slot_read (frame_numbered l.self (l.number + k)) ≡ Some (l.slot + k);
    }

abbrev pub decreases-loop-index : goal.decreases-loop-index
decreases-loop-index g l = l.count - 4096 * l.index
