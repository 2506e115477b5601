-- What a sink took. Own.
use Rattle.std.specs.Prelude.{◌≡◌, ℕ, List, ◌++◌, Option, IsSome}

-- what contracts see of a `MemSink`: what it took, its faults so far, how many bytes it has room
-- for, and how many it takes at once
pub record MemSinkFacts : Type 0 where
  pub contents : List ℕ
  pub faults : ℕ
  pub limit : ℕ
  pub step : ℕ

-- what contracts see of an `IoSink`: what its writer told that it held at the start, then what the
-- writer said it took; its faults so far
pub record IoSinkFacts : Type 0 where
  pub contents : List ℕ
  pub faults : ℕ

-- a writer of this type always tells what it holds
abbrev pub AlwaysTells : {W : Type 0} → (W → Option (List ℕ)) → Type 0
AlwaysTells {W = W} contents = (writer : W) → IsSome (contents writer)

-- of these bytes a beginning was taken, perhaps none of them, perhaps all
pub record TookBeginning (old new whole : List ℕ) : Type 0 where
  pub begun : List ℕ
  pub rest : List ℕ
  pub whole_is : whole ≡ begun ++ rest
  pub new_is : new ≡ old ++ begun
