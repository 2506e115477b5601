-- A step of the scan for a header.
use Rattle.std.proofs.Common.{◌≡◌, ◌≤◌, ◌+◌, ◌%◌, ℕ, List, arith, subst, inl, inr}
use Rattle.std.proofs.lemmas.Bool.{cases_lt}
use Rattle.bl_mb2head.specs.HeaderPlace.{IsHeaderAt}

-- where no header stands at a multiple of 8 or before it, none stands before the next multiple
pub none_before_next : (bytes : List ℕ) (at : ℕ) → at % 8 ≡ 0 → (IsHeaderAt bytes at → ⊥)
    → ((h : ℕ) → IsHeaderAt bytes h → at ≤ h) → (h : ℕ) → IsHeaderAt bytes h → at + 8 ≤ h
none_before_next bytes at aligned not_here none h here =
    let not_below = none h here in
    let aligned_too = here.aligned in
    elim (cases_lt at h) [
      | inl behind ↦ omega arith
      | inr not_behind ↦
          let same : h ≡ at =
          omega arith in absurd (not_here (subst (λ (k : ℕ). IsHeaderAt bytes k) same here))
    ]
