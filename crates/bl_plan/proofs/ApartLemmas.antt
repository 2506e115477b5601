-- Ranges that ascend with none meeting another.
use Rattle.std.proofs.Common.{◌≡◌, ◌<◌, ◌≤◌, ℕ, List, length, get_or, arith, ap, inl, inr, All}
use Rattle.std.proofs.lemmas.Bool.{cases_lt}
use Rattle.std.specs.List.Sorted.{IsNonDecreasingBy}
use Rattle.std.specs.List.{AllWithin}
use Rattle.std.specs.declared.ops.Range.{Range}
use Rattle.bl_mem.specs.Memory.{IsIn}
use Rattle.bl_plan.specs.internal.FreeBytes.{IsBlockedBy}
use Rattle.bl_plan.specs.Permitted.{AreUntaken}
use Rattle.bl_plan.specs.PlannerFacts.{AreApartRanges}

pub ends_ascend : (ranges : List (Range ℕ)) → AreApartRanges ranges
    → IsNonDecreasingBy (λ range. range.end) ranges
ends_ascend ranges apart = λ i j d order within.
    elim (cases_lt i j) [
      | inl less ↦ omega (arith, apart.in_order i j d less within, apart.forward j d within)
      | inr same ↦
          let e : i ≡ j = omega arith in
          let f = ap (λ (n : ℕ). (get_or ranges n d).end) e in omega arith
    ]

-- where the ranges before n end at the start of the bytes, and those from n on start after them,
-- no range meets them
pub open_where : (ranges : List (Range ℕ)) (n start end : ℕ) → AreApartRanges ranges
    → AllWithin (λ range. range.end ≤ start) ranges 0 n
    → ((d : Range ℕ) → n < length ranges → end ≤ (get_or ranges n d).start)
    → AreUntaken ranges start end
open_where ranges n start end apart before behind a above below k d within here =
    elim (cases_lt k n) [
      | inl less ↦ let e = before k d (omega arith) less in omega (arith, here.0)
      | inr not_less ↦ elim (cases_lt n k) [
        | inl more ↦
            let e = behind d (omega arith) in
            let f = apart.forward n d (omega arith) in
            let g = apart.in_order n k d more within in
            omega (arith, here.1, here.0)
        | inr same ↦
            let n_in : n < length ranges = omega arith in
            let e = behind d n_in in
            let eq : k ≡ n = omega arith in
            let f = ap (λ (j : ℕ). (get_or ranges j d).start) eq in
            omega (arith, here.0)
      ]
    ]

-- a range that meets the bytes
pub taken_blocks : (ranges : List (Range ℕ)) (n start end : ℕ) (d : Range ℕ) → AreApartRanges ranges
    → n < length ranges
    → (get_or ranges n d).start < end → start < (get_or ranges n d).end
    → IsBlockedBy (λ a. All (λ range. ¬ IsIn range a) ranges) start end
    (record { start = (get_or ranges n d).start; end = (get_or ranges n d).end })
taken_blocks ranges n start end d apart within meets_end meets_start =
    record {
      forward = apart.forward n d within;
      meets_end = meets_end;
      meets_start = meets_start;
      without = λ a low high none. none n d within (low, high);
    }
