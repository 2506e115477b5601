-- What the tests of a field say of its number or its text.
use Rattle.std.proofs.Common.{◌≡◌, ◌≤◌, ℕ, Bool, true, false, List, refl, sym, arith}
use Rattle.std.specs.Prelude.{nat_le, bytes_eq, not, ◌&&◌}
use Rattle.std.proofs.lemmas.Slice.Eq.{bytes_eq-Decides}
use Rattle.std.proofs.lemmas.Bool.Decides.{nat_tests}

differs : (answer : Bool) → true ≡ not answer → ¬ (answer ≡ true)
differs true e h = cc
differs false e h = cc

is_true : (answer : Bool) → false ≡ not answer → answer ≡ true
is_true true e = refl
is_true false e = cc

between_tells : (low n high : ℕ) → nat_le low n && nat_le n high ≡ true → (low ≤ n) × (n ≤ high)
between_tells low n high e = grind (arith, nat_tests)

is_false : (answer : Bool) → ¬ (answer ≡ true) → answer ≡ false
is_false true h = absurd (h refl)
is_false false h = refl

-- a text that is another
pub other_bytes : (xs ys : List ℕ) → ¬ (xs ≡ ys) → bytes_eq xs ys ≡ false
other_bytes xs ys other = is_false (bytes_eq xs ys) (λ e. other ((bytes_eq-Decides xs ys).0 e))

-- a test that compares a text
pub text_differs : (xs ys : List ℕ) → true ≡ not (bytes_eq xs ys) → bytes_eq ys xs ≡ false
text_differs xs ys e =
    other_bytes ys xs (λ same. differs (bytes_eq xs ys) e ((bytes_eq-Decides xs ys).1 (sym same)))

pub text_same : (xs ys : List ℕ) → false ≡ not (bytes_eq xs ys) → xs ≡ ys
text_same xs ys e = (bytes_eq-Decides xs ys).0 (is_true (bytes_eq xs ys) e)

-- a number between two others
pub between : (low n high : ℕ) → low ≤ n → n ≤ high → nat_le low n && nat_le n high ≡ true
between low n high h k = grind (arith, nat_tests)

pub not_between : (low n high : ℕ) → ((low ≤ n) × (n ≤ high) → ⊥)
    → nat_le low n && nat_le n high ≡ false
not_between low n high h =
    is_false (nat_le low n && nat_le n high) (λ e. h (between_tells low n high e))
