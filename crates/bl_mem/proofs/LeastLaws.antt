-- A least number with a property is one, and there is one below a bound or none.
use Rattle.std.proofs.Common.{◌≡◌, ◌<◌, ℕ, zero, suc, ◌⊎◌, inl, inr, arith, subst}
use Rattle.std.proofs.lemmas.Bool.{cases_lt}
use Rattle.bl_mem.specs.Least.{IsLeast}

pub one_least : (P : ℕ → Type 0) (h k : ℕ) → IsLeast P h → IsLeast P k → h ≡ k
one_least P h k a b = omega (arith, a.least k b.holds, b.least h a.holds)

-- no number below n has the property
abbrev pub NoneBelow : (ℕ → Type 0) → ℕ → Type 0
NoneBelow P n = (k : ℕ) → k < n → P k → ⊥

-- some number below n is the least with it
abbrev pub SomeBelow : (ℕ → Type 0) → ℕ → Type 0
SomeBelow P n = (k : ℕ) × k < n × IsLeast P k

none_more : (P : ℕ → Type 0) (n : ℕ) → NoneBelow P n → (P n → ⊥) → NoneBelow P (suc n)
none_more P n none not_here k within here =
    elim (cases_lt k n) [
      | inl below ↦ none k below here
      | inr not_below ↦ let same : k ≡ n = omega arith in not_here (subst P same here)
    ]

least_here : (P : ℕ → Type 0) (n : ℕ) → NoneBelow P n → P n → IsLeast P n
least_here P n none here = record {
  holds = here;
  least =
      λ k there.
      elim (cases_lt k n)
      [ inl below ↦ absurd (none k below there) | inr not_below ↦ omega arith ];
}

-- where each number has the property or has it not
pub least_below : (P : ℕ → Type 0) → ((k : ℕ) → P k ⊎ (P k → ⊥)) → (n : ℕ)
    → NoneBelow P n ⊎ SomeBelow P n
least_below P has zero = inl (λ k within here. absurd (omega arith))
least_below P has (suc n) =
    elim (least_below P has n) [
      | inl none ↦ elim (has n) [
        | inl here ↦ inr (n, omega arith, least_here P n none here)
        | inr not_here ↦ inl (none_more P n none not_here)
      ]
      | inr some ↦ inr (some.0, omega (arith, some.1), some.2)
    ]
