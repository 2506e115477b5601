-- Files by their numbers, and the addresses at which memory may hold them. Own.
use Rattle.std.specs.Prelude.{◌≡◌, ℕ, ◌<◌, ◌≤◌, List, [], slice_index, slice_index_or, All}
use Rattle.std.specs.declared.ops.Range.{Range}

-- the bytes of the file of this number; none if there is no such file
abbrev pub nth_file : List (List ℕ) → ℕ → List ℕ
nth_file texts file = slice_index_or texts file []

-- memory of this size has each of these addresses
abbrev pub AreAddressesBelow : (ℕ → Type 0) → ℕ → Type 0
AreAddressesBelow holds size = (a : ℕ) → holds a → a < size

-- none of the addresses from start on is one of these, up to end
abbrev pub IsApartFrom : (ℕ → Type 0) → ℕ → ℕ → Type 0
IsApartFrom holds start end = (a : ℕ) → start ≤ a → a < end → ¬ holds a

-- none of the addresses of all these ranges is one of these
abbrev pub AllApartFrom : (ℕ → Type 0) → List (Range ℕ) → Type 0
AllApartFrom holds ranges = All (λ range. IsApartFrom holds range.start range.end) ranges

-- two memories have the same byte at each of these addresses
abbrev pub Agree : (ℕ → Type 0) → List ℕ → List ℕ → Type 0
Agree holds old new = (a : ℕ) → holds a → slice_index new a ≡ slice_index old a
