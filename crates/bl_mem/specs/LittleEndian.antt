-- Numbers as bytes, the lowest byte first (System V gABI, "ELF Identification": ELFDATA2LSB).
use Rattle.std.specs.Prelude.{ℕ, List, drop}
use Rattle.byteorder.specs.Endian.{little_number, little_bytes}

-- the number in the n bytes from an offset on
unfoldable pub number_at : ℕ → List ℕ → ℕ → ℕ
number_at n bytes at = little_number n (drop at bytes)

abbrev pub u16_at : List ℕ → ℕ → ℕ
u16_at bytes at = number_at 2 bytes at

abbrev pub u32_at : List ℕ → ℕ → ℕ
u32_at bytes at = number_at 4 bytes at

abbrev pub u64_at : List ℕ → ℕ → ℕ
u64_at bytes at = number_at 8 bytes at

-- the bytes of a number of 32 and of one of 64 bits
unfoldable pub u32_bytes : ℕ → List ℕ
u32_bytes n = little_bytes 4 n

unfoldable pub u64_bytes : ℕ → List ℕ
u64_bytes n = little_bytes 8 n
