-- Ranges of addresses, the frames that they meet, and the pool after it was scrubbed. Own.
use Rattle.std.specs.Prelude.{◌≡◌, ℕ, ◌*◌, ◌<◌, ◌≤◌, ◌⊎◌, Bool, not, ◌&&◌, nat_lt, nat_le, List}
use Rattle.std.specs.Prelude.{slice_index, if◌then◌else◌}
use Rattle.std.specs.List.{list_any}
use Rattle.std.specs.declared.ops.Range.{Range}
use Rattle.bl_map.specs.PoolFrames.{is_open}

-- some byte of the frame lies in one of the ranges
abbrev pub meets : List (Range ℕ) → ℕ → Bool
meets ranges frame = not (is_open ranges (4096 * frame))

-- the address lies in one of the ranges
abbrev pub is_in_ranges : List (Range ℕ) → ℕ → Bool
is_in_ranges ranges a = list_any (λ range. nat_le range.start a && nat_lt a range.end) ranges

-- each byte outside the pool is as before
abbrev pub IsSameOutside : Range ℕ → List ℕ → List ℕ → Type 0
IsSameOutside pool old new =
    (a : ℕ) → (a < pool.start) ⊎ (pool.end ≤ a) → slice_index new a ≡ slice_index old a

-- the byte at an address after the pool was scrubbed: 0 in the pool and outside keep, else as
-- before
abbrev pub scrubbed_byte : Range ℕ → List (Range ℕ) → List ℕ → ℕ → ℕ
scrubbed_byte pool keep bytes a =
    if nat_le pool.start a && (nat_lt a pool.end && not (is_in_ranges keep a))
    then 0
    else slice_index bytes a
