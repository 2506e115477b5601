-- How many bytes a number has, that it is read again from them, and that a number in bytes is
-- small.
use Rattle.std.proofs.Common.{◌≡◌, ◌<◌, ◌+◌, ◌^◌, ℕ, List, ◌++◌, length, drop, slice_index, refl}
use Rattle.std.proofs.lemmas.List.{get_or-drop}
use Rattle.byteorder.specs.Numbers.{little_number-reads_back, little_from-lt}
use Rattle.bl_mem.specs.LittleEndian.{number_at, u32_at, u64_at, u32_bytes, u64_bytes}

pub length-u32_bytes : (n : ℕ) → length (u32_bytes n) ≡ 4
unfolding u32_bytes
length-u32_bytes n = refl

pub length-u64_bytes : (n : ℕ) → length (u64_bytes n) ≡ 8
unfolding u64_bytes
length-u64_bytes n = refl

pub u32_again : (n : ℕ) (rest : List ℕ) → n < 2 ^ 32 → u32_at (u32_bytes n ++ rest) 0 ≡ n
unfolding u32_bytes number_at
u32_again n rest fits = little_number-reads_back 4 n rest fits

pub u64_again : (n : ℕ) (rest : List ℕ) → n < 2 ^ 64 → u64_at (u64_bytes n ++ rest) 0 ≡ n
unfolding u64_bytes number_at
u64_again n rest fits = little_number-reads_back 8 n rest fits

pub u32_at-lt : (bytes : List ℕ) (at : ℕ) → ((k : ℕ) → slice_index bytes k < 256)
    → u32_at bytes at < 2 ^ 32
unfolding number_at
u32_at-lt bytes at small = little_from-lt 0 4 (drop at bytes) (λ k. rw get_or-drop (small (at + k)))
