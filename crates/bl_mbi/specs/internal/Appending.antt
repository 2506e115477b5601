-- What a writer of tags needs of a vector, and what it leaves. Own.
use Rattle.std.specs.Prelude.{◌≡◌, ◌≤◌, ◌+◌, ℕ, List, ◌++◌, Vec, vec_len, vec_capacity}

-- so many bytes more have room
abbrev pub HasRoomFor : {A : Type 0} → Vec ℕ A → ℕ → Type 0
HasRoomFor out count = vec_len out + count ≤ vec_capacity out

-- these bytes, so many, were appended, and no room was taken away
pub record Appends {A : Type 0} (old new : Vec ℕ A) (bytes : List ℕ) (count : ℕ) : Type 0 where
  pub items : new.items ≡ old.items ++ bytes
  pub len : vec_len new ≡ vec_len old + count
  pub capacity : vec_capacity old ≤ vec_capacity new
