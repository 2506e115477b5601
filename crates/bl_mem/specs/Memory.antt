-- Memory after a write, and the addresses that a write may touch. Own.
use Rattle.std.specs.Prelude.{◌≡◌, ℕ, ◌+◌, ◌<◌, ◌≤◌, List, ◌++◌, length, take, drop, All}
use Rattle.std.specs.Prelude.{replicate}
use Rattle.std.specs.declared.ops.Range.{Range}

-- the bytes with those from `at` on replaced by `part`, as many as it has
abbrev pub overwrite : List ℕ → ℕ → List ℕ → List ℕ
overwrite bytes at part = take at bytes ++ part ++ drop (at + length part) bytes

-- memory that begins at a base, with these bytes from there on; what lies below reads as zero
abbrev pub memory_from : ℕ → List ℕ → List ℕ
memory_from base held = replicate base 0 ++ held

-- the address is the range's start or after it, and before its end
abbrev pub IsIn : Range ℕ → ℕ → Type 0
IsIn range a = (range.start ≤ a) × (a < range.end)

-- all addresses from start on have room, up to end, which needs none
abbrev pub HasRoom : (ℕ → Type 0) → ℕ → ℕ → Type 0
HasRoom room start end = (a : ℕ) → start ≤ a → a < end → room a

-- all addresses of all these ranges have room
abbrev pub AllHaveRoom : (ℕ → Type 0) → List (Range ℕ) → Type 0
AllHaveRoom room ranges = All (λ range. HasRoom room range.start range.end) ranges

-- no address loses its room
abbrev pub KeepsRoom : (ℕ → Type 0) → (ℕ → Type 0) → Type 0
KeepsRoom old new = (a : ℕ) → old a → new a

-- what each call leaves of a memory: whose it is, its size, and at least the room that it had
pub record KeepsSizeAndRoom {M : Type 0} (lender_in : M → ℕ) (bytes_in : M → List ℕ)
    (room_in : M → ℕ → Type 0) (old : M) (new : M) : Type 0 where
  pub lender : lender_in new ≡ lender_in old
  pub size : length (bytes_in new) ≡ length (bytes_in old)
  pub room : KeepsRoom (room_in old) (room_in new)
