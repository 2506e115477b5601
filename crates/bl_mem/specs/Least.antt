-- The least and the greatest number with a property. Own.
use Rattle.std.specs.Prelude.{ℕ, ◌≤◌}

pub record IsLeast (P : ℕ → Type 0) (n : ℕ) : Type 0 where
  pub holds : P n
  pub least : (k : ℕ) → P k → n ≤ k

pub record IsGreatest (P : ℕ → Type 0) (n : ℕ) : Type 0 where
  pub holds : P n
  pub greatest : (k : ℕ) → P k → k ≤ n
