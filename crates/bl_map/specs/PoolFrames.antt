-- Whether the pool has frames enough beside the parts. Own.
use Rattle.std.specs.Prelude.{ℕ, zero, suc, ◌+◌, ◌-◌, ◌*◌, ◌/◌, ◌≤◌, Bool, ◌||◌, if◌then◌else◌}
use Rattle.std.specs.Prelude.{nat_le, List, length, map, All, AllPairs}
use Rattle.std.specs.List.{list_all, sum_by}
use Rattle.std.specs.declared.ops.Range.{Range}
use Rattle.bl_map.specs.Limits.{frame_size}

-- how many frames a length in bytes needs
abbrev pub frames_of : ℕ → ℕ
frames_of length = (length + (frame_size - 1)) / frame_size

-- a length rounded up to whole frames
abbrev pub round_up_to_frames : ℕ → ℕ
round_up_to_frames length = frames_of length * frame_size

-- how many frames files of these lengths need, each in frames of its own
abbrev pub frames_for : List ℕ → ℕ
frames_for lengths = sum_by frames_of lengths

-- how many frames a pool has
abbrev pub frames_in : Range ℕ → ℕ
frames_in pool = (pool.end - pool.start) / frame_size

-- no byte of the frame at an address lies in the range; a range of no byte meets no frame
abbrev pub misses_frame : Range ℕ → ℕ → Bool
misses_frame range at =
    nat_le range.end range.start
    || nat_le range.end at
    || nat_le (at + frame_size) range.start

-- no byte of the frame at an address lies in one of these ranges
abbrev pub is_open : List (Range ℕ) → ℕ → Bool
is_open ranges at = list_all (λ range. misses_frame range at) ranges

-- how many of the first n frames from start on meet none of these ranges
abbrev pub open_among : List (Range ℕ) → ℕ → ℕ → ℕ
open_among ranges start zero = 0
open_among ranges start (suc n) =
    open_among ranges start n + (if is_open ranges (start + frame_size * n) then 1 else 0)

-- how many of a pool's frames meet none of these ranges
abbrev pub open_frames : Range ℕ → List (Range ℕ) → ℕ
open_frames pool ranges = open_among ranges pool.start (frames_in pool)

-- the pool's frames that meet no part are enough for the files
abbrev pub HasFramesFor : Range ℕ → List (Range ℕ) → List (List ℕ) → Type 0
HasFramesFor pool ranges files = frames_for (map length files) ≤ open_frames pool ranges

-- ranges that go forward, each after the one before; one may have no byte
pub record AreAscending (ranges : List (Range ℕ)) : Type 0 where
  pub forward : All (λ range. range.start ≤ range.end) ranges
  pub in_order : AllPairs (λ p q. p.end ≤ q.start) ranges
