use Rattle.std.proofs.Common.{◌≡◌, ◌+◌, ◌-◌, ◌≤◌, length, take}
use Rattle.bl_mem.specs.Memory.{overwrite, KeepsRoom}
use Rattle.bl_mem.specs.Sparse.{bytes_of}
use Rattle.bl_mem.specs.SparseFrames.{HasRoomAt}
use Rattle.bl_mem.proofs.sparse.SparsePhysMem.write.Given as goal

-- what was written so far
abbrev pub invariant-loop-done : goal.invariant-loop-done
invariant-loop-done g l =
    record {
      within : l.done ≤ length l.part;
      inside : l.at + length l.part ≤ l.self.size;
      size : l.self.size ≡ l.fn.self.size;
      after : bytes_of l.self.frames l.self.size
          ≡ overwrite (bytes_of l.fn.self.frames l.fn.self.size) l.at
          (take l.done l.part);
      kept : KeepsRoom (HasRoomAt l.fn.self.frames) (HasRoomAt l.self.frames);
    }

abbrev pub decreases-loop-done : goal.decreases-loop-done
decreases-loop-done g l = length l.part - l.done
