use Rattle.std.proofs.Common.{◌≡◌, ◌-◌, ◌≤◌, replicate}
use Rattle.bl_mem.specs.Memory.{overwrite, KeepsRoom}
use Rattle.bl_mem.specs.Sparse.{bytes_of}
use Rattle.bl_mem.specs.SparseFrames.{HasRoomAt}
use Rattle.bl_mem.proofs.sparse.SparsePhysMem.zero.Given as goal

-- the zeros so far
abbrev pub invariant-loop-at : goal.invariant-loop-at
invariant-loop-at g l =
    record {
      from : l.range.start ≤ l.at;
      within : l.at ≤ l.range.end;
      size : l.self.size ≡ l.fn.self.size;
      after : bytes_of l.self.frames l.self.size
          ≡ overwrite (bytes_of l.fn.self.frames l.fn.self.size) l.range.start
          (replicate (l.at - l.range.start) 0);
      kept : KeepsRoom (HasRoomAt l.fn.self.frames) (HasRoomAt l.self.frames);
    }

abbrev pub decreases-loop-at : goal.decreases-loop-at
decreases-loop-at g l = l.range.end - l.at
