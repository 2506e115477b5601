-- Multiples of a number lie that number apart.
use Rattle.std.proofs.Common.{◌≡◌, ◌<◌, ◌≤◌, ◌+◌, ◌-◌, ◌*◌, ◌/◌, ◌%◌, ℕ, arith, ap, ◌∙◌, inl, inr}
use Rattle.std.proofs.lemmas.Bool.{cases_lt}
use Rattle.std.proofs.lemmas.Nat.{div-add-mod'}
use Rattle.std.proofs.Math.Nat.{mul-le-mul_right, mul-mod_left, add-mod_right}

-- what is left of n without its remainder is a multiple
pub cut_multiple : (m n : ℕ) → (n - n % m) % m ≡ 0
cut_multiple m n =
    let e : n - n % m ≡ n / m * m = omega (arith, div-add-mod' n m) in
    ap (λ k. k % m) e ∙ mul-mod_left (n / m) m

pub next_multiple : (m a : ℕ) → a % m ≡ 0 → (a + m) % m ≡ 0
next_multiple m a h = add-mod_right a m ∙ h

pub multiple_gap : (m a b : ℕ) → a % m ≡ 0 → b % m ≡ 0 → a < b → a + m ≤ b
multiple_gap m a b p q less =
    let e = div-add-mod' a m in let f = div-add-mod' b m in
    elim (cases_lt (a / m) (b / m)) [
      | inl more ↦
          let g : (a / m + 1) * m ≤ b / m * m = mul-le-mul_right m (omega arith) in omega arith
      | inr none ↦ let g : b / m * m ≤ a / m * m = mul-le-mul_right m none in omega arith
    ]

-- the next multiple above n is no greater than any other
pub least_multiple : (m n a : ℕ) → 1 ≤ m → a % m ≡ 0 → n ≤ a → (n % m ≡ 0 → ⊥) → n + (m - n % m) ≤ a
least_multiple m n a some h above not_one =
    elim (cases_lt (n - n % m) a) [
      | inl more ↦ let g = multiple_gap m (n - n % m) a (cut_multiple m n) h more in omega arith
      | inr none ↦ absurd (not_one (omega arith))
    ]

pub up_multiple : (m n : ℕ) → 1 ≤ m → (n + (m - n % m)) % m ≡ 0
up_multiple m n some =
    let e : n + (m - n % m) ≡ n - n % m + m = omega arith in
    ap (λ k. k % m) e ∙ next_multiple m (n - n % m) (cut_multiple m n)

-- a multiple that is not above n is not above n without its remainder
pub greatest_multiple : (m n a : ℕ) → 1 ≤ m → a % m ≡ 0 → a ≤ n → a ≤ n - n % m
greatest_multiple m n a some h below =
    elim (cases_lt (n - n % m) a) [
      | inl more ↦ let g = multiple_gap m (n - n % m) a (cut_multiple m n) h more in omega arith
      | inr none ↦ none
    ]
