-- The facts of a machine that is described are a machine's.
use Rattle.std.proofs.Common.{◌≡◌, ◌≢◌, ◌≤◌, ℕ, List, [], ◌∷◌, All, length, sym, ◌∙◌}
use Rattle.std.proofs.Common.{subst, arith, inl, inr}
use Rattle.std.proofs.lemmas.Bool.{cases_lt}
use Rattle.std.proofs.lemmas.List.Elements.{All-cons, All-head, All-weaker}
use Rattle.bl_map.specs.declared.region.Region.{Region}
use Rattle.bl_map.specs.Kinds.{kind_number}
use Rattle.bl_map.specs.NormalMap.{AreRuns, ComesBefore, region_end, kind_at}
use Rattle.bl_map.specs.MachineFacts.{IsWellFormedMachine, IsSize, MachineFacts}
use Rattle.bl_map.proofs.EdgeLemmas.{edges_above, edges_fall, edges_fall_once, edges_most}
use Rattle.bl_map.proofs.KindLemmas.{kind_not_held, none_before, not_held_behind, number_positive}
use Rattle.bl_map.proofs.MapLaws.{fewer_runs, kind_in, later_runs, same_kind}
use Rattle.bl_map.proofs.RunsLemmas.{firmware_in_runs, pool_in_runs}
use Rattle.program_desc.specs.Described.{DescriptionFacts}
use Rattle.program_boots.specs.described.DescribedMachine.{IsMachineOf}

later_bases : (x : Region) (xs : List Region) → AreRuns (x ∷ xs)
    → All (λ r. region_end x ≤ r.base) xs
later_bases x xs runs =
    All-weaker (ComesBefore x) (λ r. region_end x ≤ r.base) (λ r h. h.0) xs (later_runs x xs runs)

-- at its end a run's kind is over
other_behind : (x : Region) (xs : List Region) → AreRuns (x ∷ xs)
    → kind_at xs (region_end x) ≢ kind_number x.kind
other_behind x [] runs same = let p = number_positive x.kind in absurd (omega (arith, same))
other_behind x (y ∷ ys) runs same =
    let next = All-head (ComesBefore x) y ys (later_runs x (y ∷ ys) runs) in
    let rest = fewer_runs x (y ∷ ys) runs in
    let filled = All-head (λ run. 1 ≤ run.length) y ys rest.filled in
    elim (cases_lt (region_end x) y.base) [
      | inl gap ↦
          let p = number_positive x.kind in
          let bases =
          All-cons (λ r. y.base ≤ r.base) y ys (omega arith)
          (All-weaker (λ r. region_end y ≤ r.base) (λ r. y.base ≤ r.base) (λ r h. omega arith) ys
          (later_bases y ys rest)) in
          absurd
          (omega (arith, sym (none_before (y ∷ ys) y.base (region_end x) bases gap) ∙ same))
      | inr none ↦
          let adjoins : region_end x ≡ y.base = omega (arith, next.0) in
          next.1 adjoins
          (sym
          (same_kind y.kind x.kind
          (sym (kind_in y ys (region_end x) rest none (omega arith)) ∙ same)))
    ]

-- from an address on, runs are at most as many as the ends of regions above it, since the kind
-- changes at the end of each run
few_runs : (regions runs : List Region) (at : ℕ) → AreRuns runs
    → ((a : ℕ) → at ≤ a → kind_at runs a ≡ kind_at regions a)
    → All (λ run. at ≤ run.base) runs → length runs ≤ edges_above regions at
few_runs regions [] at runs same from = omega arith
few_runs regions (x ∷ xs) at runs same from =
    let end = region_end x in
    let filled = All-head (λ run. 1 ≤ run.length) x xs runs.filled in
    let here : at ≤ x.base = All-head (λ run. at ≤ run.base) x xs from in
    let behind : (a : ℕ) → end ≤ a → kind_at (x ∷ xs) a ≡ kind_at xs a =
    λ a past. kind_not_held x xs a (not_held_behind x a past) in
    let first : kind_at regions x.base ≡ kind_number x.kind =
    sym (same x.base here) ∙ kind_in x xs x.base runs (omega arith) (omega arith) in
    let last : kind_at regions end ≡ kind_at xs end =
    sym (same end (omega arith)) ∙ behind end (omega arith) in
    let changes : kind_at regions end ≢ kind_at regions x.base =
    λ e. other_behind x xs runs (sym last ∙ e ∙ first) in
    let passed = edges_fall_once regions x.base end (omega arith) changes in
    let before = edges_fall regions at x.base here in
    let rest =
    few_runs regions xs end (fewer_runs x xs runs)
    (λ a past. sym (behind a past) ∙ same a (omega arith)) (later_bases x xs runs) in
    omega arith

pub machine_facts : (description : DescriptionFacts) (facts : MachineFacts) → IsMachineOf description facts
    → IsWellFormedMachine facts
machine_facts description facts is =
    let regions = description.regions in
    let few = is.accepted.few in
    let most = edges_most regions 0 in
    let runs =
    few_runs regions facts.runs 0 is.runs.runs_are (λ a _. is.runs.same_kinds a)
    (λ k d _. omega arith) in
    let pool = pool_in_runs regions facts.runs is.runs _ _ is.accepted.pool_is in
    let told = firmware_in_runs regions facts.runs is.runs _ _ is.told in
    record {
      size = subst IsSize (sym is.size) is.accepted.size_is;
      runs = is.runs.runs_are;
      few = omega arith;
      pool = rw (is.size, is.pool) pool;
      firmware = rw (is.pool, is.firmware) told;
      fits = rw is.firmware is.fits;
    }
