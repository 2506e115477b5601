-- Ranges of a text. Own.
use Rattle.std.specs.Prelude.{ℕ, ◌+◌, ◌^◌, ◌-◌, nat_le, Bool, if◌then◌else◌, List, [], length}
use Rattle.std.specs.Prelude.{slice_range}
use Rattle.c_records.specs.declared.seen_records.ByteRange.{ByteRange}

-- so many bytes from a first one on are among so many
abbrev pub are_among : ℕ → ℕ → ℕ → Bool
are_among first count all = nat_le (first + count) all

-- the bytes of a range, none if it does not lie within
abbrev pub range_bytes : List ℕ → ByteRange → List ℕ
range_bytes bytes range =
    if are_among range.offset range.length (length bytes)
    then slice_range bytes range.offset (range.offset + range.length)
    else []

-- the range of what is not there
abbrev pub no_range : ByteRange
no_range = record { offset = 2 ^ 64 - 1; length = 0 }
