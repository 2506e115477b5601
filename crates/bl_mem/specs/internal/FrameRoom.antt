-- What the code keeps of frames while they get room.
use Rattle.std.specs.Prelude.{◌<◌, ◌≤◌, ℕ}
use Rattle.bl_mem.specs.Memory.{KeepsRoom}
use Rattle.bl_mem.specs.SparseFrames.{SparseFramesFacts, HasRoomAt, FramesHaveRoom, SameBytes}

-- all bytes are as they were, and no address loses its room
pub record OnlyGainsRoom (old : SparseFramesFacts) (new : SparseFramesFacts) : Type 0 where
  pub same : SameBytes old new
  pub kept : KeepsRoom (HasRoomAt old) (HasRoomAt new)

-- the frames from `at` on have room up to the next one to look at, which is not behind `end`
pub record HasRoomUpTo (frames : SparseFramesFacts) (at : ℕ) (end : ℕ) (next : ℕ) : Type 0 where
  pub made : FramesHaveRoom frames at next
  pub more : at < next
  pub within : next ≤ end
