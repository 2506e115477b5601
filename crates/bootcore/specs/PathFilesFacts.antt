-- Files of the operating system. Own.
use Rattle.std.specs.Prelude.{ℕ, List}

-- their faults so far, and the names that they were asked for
pub record PathFilesFacts : Type 0 where
  pub faults : ℕ
  pub asked : List (List ℕ)
