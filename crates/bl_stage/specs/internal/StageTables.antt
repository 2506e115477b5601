-- What a stage keeps of its tables.
use Rattle.std.specs.Prelude.{◌≡◌, ℕ, ◌+◌, ◌*◌, ◌/◌, ◌%◌, ◌^◌, ◌<◌, ◌≤◌, List, length}
use Rattle.std.specs.Prelude.{slice_index, Bool, not, if◌then◌else◌, Option, Some, None}
use Rattle.std.specs.List.{count_by}
use Rattle.std.specs.declared.ops.Range.{Range}
use Rattle.bl_stage.specs.declared.cell.Cell.{Cell}
use Rattle.bl_stage.specs.internal.Cells.{AreHeld}
use Rattle.bl_stage.specs.Staged.{Staging, frames_before, AreApart}
use Rattle.bl_stage.specs.Pieces.{is_piece, slot_in}
use Rattle.bl_map.specs.PoolFrames.{frames_for}

pub record KeepsTables (base : ℕ) (pool : Range ℕ) (sizes starts frames : List ℕ) (came : List Bool)
    (cells : List Cell) (waiting : ℕ) : Type 0 where
  pub held : AreHeld base frames cells
  pub all : length frames ≡ frames_for sizes
  pub flags : length came ≡ length frames
  pub files : length starts ≡ length sizes
  pub each : (file : ℕ) → file < length sizes → slice_index starts file ≡ frames_before sizes file
  pub waits : waiting ≡ count_by not came
  pub start : pool.start ≡ 4096 * base
  pub end : pool.end ≡ 4096 * (base + length cells)
  pub small : pool.end < 2 ^ 64

-- a pool of whole frames, not too many, and as many of them, by their numbers, as the files need,
-- none named twice
pub record AreFramesOf (pool : Range ℕ) (sizes : List ℕ) (frames : List ℕ) : Type 0 where
  pub start : pool.start % 4096 ≡ 0
  pub end : pool.end % 4096 ≡ 0
  pub forward : pool.start ≤ pool.end
  pub few : pool.end < pool.start + 4096 * 2 ^ 32
  pub all : length frames ≡ frames_for sizes
  pub low : (k : ℕ) → k < length frames → pool.start / 4096 ≤ slice_index frames k
  pub high : (k : ℕ) → k < length frames → slice_index frames k < pool.end / 4096
  pub apart : AreApart frames

-- the place of a piece of this length in the list of all frames, if it is one of a file
abbrev pub slot_of_piece : Staging → ℕ → ℕ → ℕ → Option ℕ
slot_of_piece stage file index len =
    if is_piece stage file index len then Some (slot_in stage file index) else None

-- how many frames stand before each file's own
pub record AreStarts (sizes : List ℕ) (starts : List ℕ) : Type 0 where
  pub len : length starts ≡ length sizes
  pub each : (file : ℕ) → file < length sizes → slice_index starts file ≡ frames_before sizes file

-- so many numbers, from `start` on
pub record AreNumbersFrom (start : ℕ) (count : ℕ) (numbers : List ℕ) : Type 0 where
  pub long : length numbers ≡ count
  pub each : (k : ℕ) → k < count → slice_index numbers k ≡ start + k
