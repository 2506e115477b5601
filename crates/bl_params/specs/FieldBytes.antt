-- Bytes that are told by fields at their offsets. Own.
use Rattle.std.specs.Prelude.{ℕ, ◌+◌, ◌-◌, ◌/◌, ◌%◌, ◌^◌, ◌==◌, Bool, not, ◌&&◌, nat_lt, nat_le}
use Rattle.std.specs.Prelude.{if◌then◌else◌, List, [], ◌∷◌, length, slice_index, map}
use Rattle.std.specs.List.{range_with_len}
use Rattle.byteorder.specs.Endian.{little_bytes}

-- a number's n bytes, the lowest first
unfoldable pub number_bytes : ℕ → ℕ → List ℕ
number_bytes n x = little_bytes n x

-- the halves of a number of 64 bits, of 32 bits each
abbrev pub low_half : ℕ → ℕ
low_half x = x % 2 ^ 32

abbrev pub high_half : ℕ → ℕ
high_half x = x / 2 ^ 32

-- the byte at k where a field stands at an offset over other bytes
unfoldable pub byte_over : ℕ → List ℕ → (ℕ → ℕ) → ℕ → ℕ
byte_over at field rest k =
    if nat_le at k && nat_lt k (at + length field) then slice_index field (k - at) else rest k

-- the byte at k of fields, each an offset and its bytes: where several reach it the first counts,
-- where none does it is 0
abbrev pub byte_of_fields : List (ℕ × List ℕ) → ℕ → ℕ
byte_of_fields [] k = 0
byte_of_fields ((at, field) ∷ fields) k = byte_over at field (byte_of_fields fields) k

-- so many bytes of them
abbrev pub bytes_of_fields : ℕ → List (ℕ × List ℕ) → List ℕ
bytes_of_fields size fields = map (byte_of_fields fields) (range_with_len 0 size)

-- a byte of no field must be 0
abbrev pub is_nonzero_at : List ℕ → ℕ → Bool
is_nonzero_at bytes k = not (slice_index bytes k == 0)
