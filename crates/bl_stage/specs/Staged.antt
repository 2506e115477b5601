-- Files whose bytes lie in frames of the pool. A frame of 4096 bytes goes by its number: frame n
-- has the addresses from 4096 * n on. Own.
use Rattle.std.specs.Prelude.{◌≡◌, ℕ, ◌+◌, ◌*◌, ◌/◌, ◌%◌, ◌<◌, ◌≤◌, List, length, take, map}
use Rattle.std.specs.Prelude.{slice_index, slice_range, replicate, Bool, true, false, All}
use Rattle.std.specs.List.{range_with_len}
use Rattle.std.specs.declared.ops.Range.{Range}
use Rattle.bl_map.specs.PoolFrames.{frames_of, frames_for}

-- the address of a file's byte i, if these are the numbers of its frames
abbrev pub place_of : List ℕ → ℕ → ℕ
place_of frames i = 4096 * slice_index frames (i / 4096) + i % 4096

-- the bytes of a file of this length in these frames of memory
abbrev pub staged : List ℕ → List ℕ → ℕ → List ℕ
staged bytes frames size = map (λ i. slice_index bytes (place_of frames i)) (range_with_len 0 size)

-- a stage: the pool's addresses, the files' sizes in bytes, the frames of all files, one file's
-- after the other's, and for each of these frames whether its piece came
pub record Staging : Type 0 where
  pub pool : Range ℕ
  pub sizes : List ℕ
  pub frames : List ℕ
  pub came : List Bool

-- how many frames stand before a file's own
abbrev pub frames_before : List ℕ → ℕ → ℕ
frames_before sizes file = frames_for (take file sizes)

-- a file's frames
abbrev pub frames_of_file : Staging → ℕ → List ℕ
frames_of_file stage file =
    slice_range stage.frames (frames_before stage.sizes file)
    (frames_before stage.sizes file + frames_of (slice_index stage.sizes file))

-- a file's bytes
abbrev pub staged_file : List ℕ → Staging → ℕ → List ℕ
staged_file bytes stage file =
    staged bytes (frames_of_file stage file) (slice_index stage.sizes file)

-- no frame is named twice
abbrev pub AreApart : List ℕ → Type 0
AreApart frames =
    (j k : ℕ) → j < length frames → k < length frames
    → slice_index frames j ≡ slice_index frames k → j ≡ k

-- each file has its frames, in the pool, each of them one file's alone
pub record AreStaged (stage : Staging) : Type 0 where
  pub all : length stage.frames ≡ frames_for stage.sizes
  pub flags : length stage.came ≡ length stage.frames
  pub low : (k : ℕ) → k < length stage.frames → stage.pool.start ≤ 4096 * slice_index stage.frames k
  pub high : (k : ℕ) → k < length stage.frames
      → 4096 * slice_index stage.frames k + 4096 ≤ stage.pool.end
  pub apart : AreApart stage.frames

-- a stage to which no piece came
abbrev pub empty_stage : Range ℕ → List ℕ → List ℕ → Staging
empty_stage pool sizes frames = record {
  pool = pool;
  sizes = sizes;
  frames = frames;
  came = replicate (length frames) false;
}

-- each piece of each file came
abbrev pub AllCame : Staging → Type 0
AllCame stage = All (λ came. came ≡ true) stage.came

-- memory has the pool, unless that is empty: such a one may lie anywhere
abbrev pub HasPool : List ℕ → Range ℕ → Type 0
HasPool bytes pool = pool.start < pool.end → pool.end ≤ length bytes

-- the stage with its frames elsewhere
abbrev pub with_frames : Staging → List ℕ → Staging
with_frames stage frames = record {
  pool = stage.pool;
  sizes = stage.sizes;
  frames = frames;
  came = stage.came;
}

-- the bytes of each file
abbrev pub staged_texts : List ℕ → Staging → List (List ℕ)
staged_texts bytes stage =
    map (λ file. staged_file bytes stage file) (range_with_len 0 (length stage.sizes))

-- the address lies in a frame of a file
pub record IsStagedOn (stage : Staging) (a : ℕ) : Type 0 where
  pub file : ℕ
  pub index : ℕ
  pub of_stage : file < length stage.sizes
  pub of_file : index < frames_of (slice_index stage.sizes file)
  pub low : 4096 * slice_index (frames_of_file stage file) index ≤ a
  pub high : a < 4096 * slice_index (frames_of_file stage file) index + 4096

-- memory of this size has each of these frames
abbrev pub AreInside : List ℕ → ℕ → Type 0
AreInside frames size = (k : ℕ) → k < length frames → 4096 * slice_index frames k + 4096 ≤ size
