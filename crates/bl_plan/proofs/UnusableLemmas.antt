-- The first byte that is not usable, where it is looked for by halves, or is avoided.
use Rattle.std.proofs.Common.{◌≡◌, ◌+◌, ◌-◌, ◌<◌, ◌≤◌, ℕ, All, arith, subst, inl, inr}
use Rattle.std.proofs.lemmas.Bool.{cases_lt}
use Rattle.bl_map.specs.MachineFacts.{MachineFacts, IsUsable, AllUsable}
use Rattle.bl_mem.specs.Least.{IsLeast}
use Rattle.bl_mem.specs.Memory.{IsIn}
use Rattle.bl_plan.specs.Permitted.{AreUnavoided}
use Rattle.bl_plan.specs.Unusable.{IsUnusableFrom, IsUnplaceableFrom}
use Rattle.bl_plan.proofs.DecidedLemmas.{usable_or_not}

one_more : (facts : MachineFacts) (start low : ℕ) → AllUsable facts start low → IsUsable facts low
    → AllUsable facts start (low + 1)
one_more facts start low before here a from below =
    elim (cases_lt a low) [
      | inl less ↦ before a from less
      | inr more ↦
          let same : low ≡ a = omega arith in subst (λ (k : ℕ). IsUsable facts k) same here
    ]

pub low_is_first : (facts : MachineFacts) (start low high : ℕ) → start ≤ low → high - low ≡ 1
    → AllUsable facts start low → ¬ AllUsable facts start high
    → IsLeast (IsUnusableFrom facts start) low
low_is_first facts start low high from one before within = record {
  holds = record {
    from = from;
    unusable = λ here. within
        (λ a above below. one_more facts start low before here a above (omega arith));
  };
  least = λ k is. elim (cases_lt k low) [
    | inl less ↦ absurd (is.unusable (before k is.from less))
    | inr more ↦ more
  ];
}

pub has_a_byte : (facts : MachineFacts) (start end : ℕ) → ¬ AllUsable facts start end → start < end
has_a_byte facts start end some = elim (cases_lt start end) [
  | inl less ↦ less
  | inr none ↦ absurd (some (λ a above below. absurd (omega arith)))
]

-- each byte before the first that is not usable is
pub usable_up_to : (facts : MachineFacts) (start first : ℕ)
    → IsLeast (IsUnusableFrom facts start) first → AllUsable facts start first
usable_up_to facts start first is a from below = elim (usable_or_not facts a) [
  | inl here ↦ here
  | inr never ↦
      let no_less = is.least a (record { from = from; unusable = never }) in absurd (omega arith)
]

module _ (facts : MachineFacts) (start usable first end : ℕ) where
  -- the first byte that is avoided, or else the first that is not usable
  pub first_of_both : start ≤ first → first ≤ usable → first < end → AllUsable facts start usable
      → (usable < end → ¬ IsUsable facts usable) → AreUnavoided facts start first
      → (first < usable → ¬ All (λ range. ¬ IsIn range first) facts.firmware.avoided)
      → IsLeast (IsUnplaceableFrom facts start) first
  first_of_both from within before usable_before unusable unavoided avoided = record {
    holds = record {
      from = from;
      unplaceable = λ both. elim (cases_lt first usable) [
        | inl less ↦ avoided less both.1
        | inr more ↦
            let same : first ≡ usable = omega arith in
            unusable (omega arith) (subst (λ (k : ℕ). IsUsable facts k) same both.0)
      ];
    };
    least = λ k is. elim (cases_lt k first) [
      | inl less ↦
          absurd (is.unplaceable
          (usable_before k is.from (omega arith), unavoided k is.from less))
      | inr more ↦ more
    ];
  }

  pub none_of_both : first ≤ usable → usable ≤ end → end ≤ first → AllUsable facts start usable
      → AreUnavoided facts start first → AllUsable facts start end × AreUnavoided facts start end
  none_of_both within most none usable_before unavoided = (
    λ a from below. usable_before a from (omega arith),
    λ a from below. unavoided a from (omega arith),
  )
