-- The kind of an address, by the run that holds it.
use Rattle.std.proofs.Common.{◌≡◌, ◌<◌, ◌≤◌, ◌+◌, ℕ, zero, suc, Bool, true, false, List, [], ◌∷◌}
use Rattle.std.proofs.Common.{length, get_or, arith, ap, sym, ◌∙◌, refl, inl, inr, if◌then◌else◌}
use Rattle.std.specs.Prelude.{Any}
use Rattle.std.proofs.lemmas.Bool.{cases_lt}
use Rattle.std.proofs.lemmas.Bool.Decides.{nat_tests}
use Rattle.std.proofs.lemmas.List.{get_or_default}
use Rattle.bl_map.specs.declared.kind.Kind.TheVariants.{Usable}
use Rattle.bl_map.specs.declared.region.Region.{Region}
use Rattle.bl_map.specs.Kinds.{kind_number}
use Rattle.bl_map.specs.NormalMap.{kind_at, region_holds, region_end, AreRuns}
use Rattle.bl_map.proofs.KindLemmas.{kind_not_held, not_held_behind}
use Rattle.bl_map.proofs.MapLaws.{fewer_runs, kind_in, same_kind}
use Rattle.bl_plan.specs.internal.FreeBytes.{IsBlockedBy}

-- a run of kind usable that holds an address
abbrev pub IsUsableRun : ℕ → Region → Type 0
IsUsableRun a run = (run.kind ≡ Usable) × (run.base ≤ a) × (a < region_end run)

held_at_one : (b : Bool) (n : ℕ) → (if b then n else 0) ≡ 1 → (b ≡ true) × (n ≡ 1)
held_at_one true n h = (refl, h)
held_at_one false n h = absurd (omega arith)

within : (run : Region) (a : ℕ) → region_holds run a ≡ true → (run.base ≤ a) × (a < region_end run)
within run a h = grind (arith, nat_tests)

-- an address of kind 1 lies in a run of that kind
pub run_of_usable : (runs : List Region) (a : ℕ) → kind_at runs a ≡ 1 → Any (IsUsableRun a) runs
run_of_usable [] a h = absurd (omega arith)
run_of_usable (run ∷ runs) a h =
    elim (cases_lt (kind_at runs a) 1) [
      | inl less ↦
          let (in_it, one) = held_at_one (region_holds run a) (kind_number run.kind)
          (omega arith) in
          let here = within run a in_it in
          (0, run, omega arith, refl, (same_kind run.kind Usable one, here.0, here.1))
      | inr more ↦
          let (k, x, within, at, here) = run_of_usable runs a (omega arith) in
          (suc k, x, omega arith, at, here)
    ]

-- an address in a run of kind 1 has that kind
pub usable_in_run : (runs : List Region) (k a : ℕ) (d : Region) → AreRuns runs → k < length runs
    → IsUsableRun a (get_or runs k d) → kind_at runs a ≡ 1
usable_in_run [] k a d are inside h = absurd (omega arith)
usable_in_run (run ∷ runs) zero a d are inside h =
    kind_in run runs a are h.1 h.2 ∙ ap kind_number h.0
usable_in_run (run ∷ runs) (suc k) a d are inside h =
    let p = (are.in_order 0 (suc k) d (omega arith) inside).0 in
    kind_not_held run runs a (not_held_behind run a (omega (arith, h.1)))
    ∙ usable_in_run runs k a d (fewer_runs run runs are) (omega arith) h

-- where the runs of kind usable before k end at `from` or below, an address from there on that has
-- that kind lies in run k or after it
usable_from : (runs : List Region) (k from a : ℕ)
    → ((j : ℕ) (e : Region) → j < k → (get_or runs j e).kind ≡ Usable
    → region_end (get_or runs j e) ≤ from)
    → from ≤ a → kind_at runs a ≡ 1
    → (j : ℕ) × (x : Region) × (k ≤ j) × (j < length runs) × (get_or runs j x ≡ x) × IsUsableRun a x
usable_from runs k from a before above one =
    let (j, x, within, at, here) = run_of_usable runs a one in
    elim (cases_lt j k) [
      | inl less ↦
          let f = before j x less (ap (λ (r : Region). r.kind) at ∙ here.0) in
          let g = ap (λ (r : Region). region_end r) at in
          absurd (omega (arith, here.2))
      | inr more ↦ (j, x, more, within, at, here)
    ]

-- a gap before run k that meets the bytes
pub gap_blocks : (runs : List Region) (k from start end : ℕ) (d : Region) → AreRuns runs
    → k < length runs
    → ((j : ℕ) (e : Region) → j < k → (get_or runs j e).kind ≡ Usable
    → region_end (get_or runs j e) ≤ from)
    → start < end → from < (get_or runs k d).base → start < (get_or runs k d).base → from < end
    → IsBlockedBy (λ a. kind_at runs a ≡ 1) start end
    (record { start = from; end = (get_or runs k d).base })
gap_blocks runs k from start end d are within before forward gap meets_start meets_end =
    record {
      forward = gap;
      meets_end = meets_end;
      meets_start = meets_start;
      without = λ a low high one.
          let (j, x, more, j_in, at, here) = usable_from runs k from a before low one in
          elim (cases_lt k j) [
            | inl after ↦
                let p = (are.in_order k j x after j_in).0 in
                let same = get_or_default runs k d x within in
                let f = ap (λ (r : Region). r.base) same in
                let g = ap (λ (r : Region). r.base) at in
                omega (arith, here.1)
            | inr not_after ↦
                let e : j ≡ k = omega arith in
                let all : get_or runs k d ≡ x =
                get_or_default runs k d x within ∙ ap (λ (n : ℕ). get_or runs n x) (sym e)
                ∙ at in
                let f = ap (λ (r : Region). r.base) all in
                omega (arith, here.1)
          ];
    }

-- no run of kind usable is left
pub last_blocks : (runs : List Region) (k from start end limit : ℕ) → length runs ≤ k
    → ((j : ℕ) (e : Region) → j < k → (get_or runs j e).kind ≡ Usable
    → region_end (get_or runs j e) ≤ from)
    → start < end → from < end → end ≤ limit
    → IsBlockedBy (λ a. kind_at runs a ≡ 1) start end (record { start = from; end = limit })
last_blocks runs k from start end limit all before forward gap below =
    record {
      forward = omega arith;
      meets_end = gap;
      meets_start = omega arith;
      without = λ a low high one.
          let (j, x, more, j_in, at, here) = usable_from runs k from a before low one in
          omega arith;
    }

-- one more run of kind usable, with no gap before it that meets the bytes
pub usable_more : (runs : List Region) (k from start end a : ℕ) (d : Region) → AreRuns runs
    → k < length runs
    → (get_or runs k d).kind ≡ Usable
    → (from < (get_or runs k d).base → start < (get_or runs k d).base → from < end → ⊥)
    → ((b : ℕ) → start ≤ b → b < end → b < from → kind_at runs b ≡ 1)
    → start ≤ a → a < end → a < region_end (get_or runs k d) → kind_at runs a ≡ 1
usable_more runs k from start end a d are within usable no_gap so_far above below in_run =
    elim (cases_lt a from) [
      | inl less ↦ so_far a above below less
      | inr more ↦ elim (cases_lt a (get_or runs k d).base) [
        | inl gap ↦ absurd (no_gap (omega arith) (omega arith) (omega arith))
        | inr no_less ↦ usable_in_run runs k a d are within (usable, no_less, in_run)
      ]
    ]

-- no run up to k ends after run k
pub ends_more : (runs : List Region) (k j : ℕ) (d e : Region) → AreRuns runs → k < length runs
    → j < k + 1 → region_end (get_or runs j e) ≤ region_end (get_or runs k d)
ends_more runs k j d e are within before =
    let same = get_or_default runs k d e within in
    let f = ap (λ (r : Region). region_end r) same in
    elim (cases_lt j k) [
      | inl less ↦ let p = (are.in_order j k e less within).0 in omega arith
      | inr not_less ↦
          let g : j ≡ k = omega arith in
          let h = ap (λ (n : ℕ). region_end (get_or runs n e)) g in
          omega arith
    ]
