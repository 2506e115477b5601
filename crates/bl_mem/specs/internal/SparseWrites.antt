-- What the code keeps of a memory of frames from one of its calls to the next.
use Rattle.std.specs.Prelude.{◌≡◌, ◌+◌, ◌%◌, ◌≤◌, ℕ, List}
use Rattle.bl_mem.specs.Memory.{overwrite, KeepsRoom}
use Rattle.bl_mem.specs.Sparse.{bytes_of, SparseFacts}
use Rattle.bl_mem.specs.SparseFrames.{HasRoomAt}

-- so many bytes from `at` on lie in memory, in one frame, and that has room
pub record CanWriteFrame (memory : SparseFacts) (at : ℕ) (count : ℕ) : Type 0 where
  pub inside : at + count ≤ memory.size
  pub one : at % 4096 + count ≤ 4096
  pub held : HasRoomAt memory.frames at

-- two frames begin at these addresses, and lie in memory
pub record AreWholeFrames (memory : SparseFacts) (one : ℕ) (other : ℕ) : Type 0 where
  pub source : one + 4096 ≤ memory.size
  pub inside : other + 4096 ≤ memory.size
  pub frames : (one % 4096 ≡ 0) × (other % 4096 ≡ 0)

-- memory has the part from `at` on and is else the same
pub record IsWrittenOver (old : SparseFacts) (new : SparseFacts) (at : ℕ) (part : List ℕ)
    : Type 0 where
  pub after : bytes_of new.frames new.size ≡ overwrite (bytes_of old.frames old.size) at part
  pub kept : KeepsRoom (HasRoomAt old.frames) (HasRoomAt new.frames)
  pub size : new.size ≡ old.size

-- memory has the same bytes, and at least the room that it had
pub record KeepsBytesAndRoom (old : SparseFacts) (new : SparseFacts) : Type 0 where
  pub same : bytes_of new.frames new.size ≡ bytes_of old.frames old.size
  pub size : new.size ≡ old.size
  pub kept : KeepsRoom (HasRoomAt old.frames) (HasRoomAt new.frames)
