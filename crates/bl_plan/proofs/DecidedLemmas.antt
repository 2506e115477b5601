-- Whether an address is permitted is decided.
use Rattle.std.proofs.Common.{◌≡◌, ◌<◌, ◌≤◌, ◌+◌, ◌%◌, ℕ, zero, suc, List, [], ◌∷◌, ◌⊎◌, inl, inr}
use Rattle.std.proofs.Common.{arith, subst, All}
use Rattle.std.proofs.lemmas.Bool.{cases_lt}
use Rattle.std.proofs.lemmas.List.Elements.{All-nil, All-cons, All-head, All-tail}
use Rattle.std.specs.declared.ops.Range.{Range}
use Rattle.bl_mem.specs.Memory.{IsIn}
use Rattle.bl_map.specs.NormalMap.{kind_at}
use Rattle.bl_map.specs.Limits.{first_usable, usable_limit}
use Rattle.bl_map.specs.MachineFacts.{MachineFacts, IsUsable, AllUsable}
use Rattle.bl_plan.specs.Permitted.{AreUntaken, IsPermitted}

-- it holds or it does not
abbrev pub IsDecided : Type 0 → Type 0
IsDecided P = P ⊎ (P → ⊥)

eq_or_not : (m n : ℕ) → IsDecided (m ≡ n)
eq_or_not m n =
    elim (cases_lt m n) [
      | inl below ↦ inr (λ e. omega arith)
      | inr at_least ↦ elim (cases_lt n m) [
        | inl above ↦ inr (λ e. omega arith)
        | inr at_most ↦ inl (omega arith)
      ]
    ]

le_or_not : (m n : ℕ) → IsDecided (m ≤ n)
le_or_not m n =
    elim (cases_lt n m) [ inl below ↦ inr (λ h. omega arith) | inr above ↦ inl (omega arith) ]

lt_or_not : (m n : ℕ) → IsDecided (m < n)
lt_or_not m n = elim (cases_lt m n) [ inl below ↦ inl below | inr above ↦ inr (λ h. omega arith) ]

-- of each number from start up to end
abbrev Throughout : (ℕ → Type 0) → ℕ → ℕ → Type 0
Throughout P start end = (a : ℕ) → start ≤ a → a < end → P a

one_more : (P : ℕ → Type 0) (start n : ℕ) → Throughout P start n → P n → Throughout P start (suc n)
one_more P start n all here a low high =
    elim (cases_lt a n) [
      | inl below ↦ all a low below
      | inr not_below ↦ let same : n ≡ a = omega arith in subst P same here
    ]

throughout_or_not : (P : ℕ → Type 0) → ((k : ℕ) → IsDecided (P k)) → (start end : ℕ)
    → IsDecided (Throughout P start end)
throughout_or_not P has start zero = inl (λ a low high. absurd (omega arith))
throughout_or_not P has start (suc n) =
    elim (throughout_or_not P has start n) [
      | inr never ↦ inr (λ each. never (λ a low high. each a low (omega arith)))
      | inl all ↦ elim (cases_lt n start) [
        | inl below ↦ inl (λ a low high. absurd (omega arith))
        | inr from ↦ elim (has n) [
          | inl here ↦ inl (one_more P start n all here)
          | inr not_here ↦ inr (λ each. not_here (each n from (omega arith)))
        ]
      ]
    ]

pub usable_or_not : (facts : MachineFacts) (a : ℕ) → IsDecided (IsUsable facts a)
usable_or_not facts a =
    elim (eq_or_not (kind_at facts.runs a) 1) [
      | inr never ↦ inr (λ usable. never usable.kind)
      | inl kind ↦ elim (le_or_not first_usable a) [
        | inr never ↦ inr (λ usable. never usable.above)
        | inl above ↦ elim (lt_or_not a facts.size) [
          | inr never ↦ inr (λ usable. never usable.in_size)
          | inl in_size ↦ elim (lt_or_not a usable_limit) [
            | inr never ↦ inr (λ usable. never usable.below)
            | inl below ↦
                inl (record { kind = kind; above = above; in_size = in_size; below = below })
          ]
        ]
      ]
    ]

in_or_not : (range : Range ℕ) (a : ℕ) → IsDecided (IsIn range a)
in_or_not range a =
    elim (le_or_not range.start a) [
      | inr never ↦ inr (λ within. never within.0)
      | inl start ↦
          elim (lt_or_not a range.end)
          [ inr never ↦ inr (λ within. never within.1) | inl end ↦ inl (start, end) ]
    ]

open_or_not : (taken : List (Range ℕ)) (a : ℕ) → IsDecided (All (λ range. ¬ IsIn range a) taken)
open_or_not [] a = inl (All-nil (λ range. ¬ IsIn range a))
open_or_not (range ∷ taken) a =
    elim (in_or_not range a) [
      | inl within ↦ inr (λ all. All-head (λ (r : Range ℕ). ¬ IsIn r a) range taken all within)
      | inr out ↦ elim (open_or_not taken a) [
        | inr never ↦ inr (λ all. never (All-tail (λ (r : Range ℕ). ¬ IsIn r a) range taken all))
        | inl rest ↦ inl (All-cons (λ (r : Range ℕ). ¬ IsIn r a) range taken out rest)
      ]
    ]

pub all_usable_or_not : (facts : MachineFacts) (start end : ℕ)
    → IsDecided (AllUsable facts start end)
all_usable_or_not facts start end =
    throughout_or_not (IsUsable facts) (usable_or_not facts) start end

pub all_open_or_not : (taken : List (Range ℕ)) (start end : ℕ)
    → IsDecided (AreUntaken taken start end)
all_open_or_not taken start end =
    throughout_or_not (λ a. All (λ range. ¬ IsIn range a) taken) (open_or_not taken) start end

module _ (facts : MachineFacts) (taken : List (Range ℕ)) (count align low high : ℕ) where
  pub permitted_or_not : (a : ℕ) → IsDecided (IsPermitted facts taken count align low high a)
  permitted_or_not a =
      elim (eq_or_not (a % align) 0) [
        | inr never ↦ inr (λ permitted. never permitted.aligned)
        | inl aligned ↦ elim (le_or_not low a) [
          | inr never ↦ inr (λ permitted. never permitted.above)
          | inl above ↦ elim (le_or_not (a + count) high) [
            | inr never ↦ inr (λ permitted. never permitted.below)
            | inl below ↦ elim (all_usable_or_not facts a (a + count)) [
              | inr never ↦ inr (λ permitted. never permitted.usable)
              | inl usable ↦ elim (all_open_or_not facts.firmware.avoided a (a + count)) [
                | inr never ↦ inr (λ permitted. never permitted.unavoided)
                | inl unavoided ↦ elim (all_open_or_not taken a (a + count)) [
                  | inr never ↦ inr (λ permitted. never permitted.apart)
                  | inl apart ↦
                      inl
                      (record {
                        aligned = aligned;
                        above = above;
                        below = below;
                        usable = usable;
                        unavoided = unavoided;
                        apart = apart;
                      })
                ]
              ]
            ]
          ]
        ]
      ]

  -- a permitted address is small
  pub permitted_small : (a : ℕ) → IsPermitted facts taken count align low high a → a < suc high
  permitted_small a permitted = let below = permitted.below in omega arith
