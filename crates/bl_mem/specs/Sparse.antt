-- What memory of frames reads as, up to its size. Own.
use Rattle.std.specs.Prelude.{ℕ, List, map}
use Rattle.std.specs.List.{range_with_len}
use Rattle.bl_mem.specs.SparseFrames.{SparseFramesFacts, frame_byte}

-- the bytes at 0, 1, .. up to the size
abbrev pub bytes_of : SparseFramesFacts → ℕ → List ℕ
bytes_of facts size = map (frame_byte facts) (range_with_len 0 size)

-- such memory: its size, and its frames
pub record SparseFacts : Type 0 where
  pub size : ℕ
  pub frames : SparseFramesFacts
