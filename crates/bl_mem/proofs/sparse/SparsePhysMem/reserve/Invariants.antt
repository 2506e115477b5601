use Rattle.std.proofs.Common.{◌≡◌, take}
use Rattle.bl_mem.specs.Memory.{KeepsRoom, AllHaveRoom}
use Rattle.bl_mem.specs.Sparse.{bytes_of}
use Rattle.bl_mem.specs.SparseFrames.{HasRoomAt}
use Rattle.bl_mem.proofs.sparse.SparsePhysMem.reserve.Given as goal

-- the ranges so far have room
abbrev pub invariant-loop-range : goal.invariant-loop-range
invariant-loop-range g l =
    record {
      same : bytes_of l.self.frames l.self.size
          ≡ bytes_of l.fn.self.frames l.fn.self.size;
      size : l.self.size ≡ l.fn.self.size;
      kept : KeepsRoom (HasRoomAt l.fn.self.frames) (HasRoomAt l.self.frames);
      made : AllHaveRoom (HasRoomAt l.self.frames) (take l.range-index l.ranges);
    }
