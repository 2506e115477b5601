use Rattle.std.proofs.Common.{◌-◌, ◌≤◌, length}
use Rattle.bl_mem.specs.Memory.{KeepsRoom}
use Rattle.bl_mem.specs.SparseFrames.{SameBytes, HasRoomAt, FramesHaveRoom}
use Rattle.bl_mem.proofs.sparse_frames.SparseFrames.hold.Given as goal

-- the frames so far have room
abbrev pub invariant-loop-at : goal.invariant-loop-at
invariant-loop-at g l =
    record {
      from : l.first ≤ l.at;
      within : l.at ≤ l.end;
      size : l.end ≤ length l.self.table;
      same : SameBytes l.fn.self l.self;
      kept : KeepsRoom (HasRoomAt l.fn.self) (HasRoomAt l.self);
      made : FramesHaveRoom l.self l.first l.at;
    }

abbrev pub decreases-loop-at : goal.decreases-loop-at
decreases-loop-at g l = l.end - l.at
