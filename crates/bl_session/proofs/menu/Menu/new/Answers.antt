use Rattle.std.proofs.Common.{◌≡◌, All, List, ◌≤◌, ℕ, ap, length, map, refl, sym, subst, arith, rules}
use Rattle.bl_load.specs.WellFormedEntry.{IsWellFormedEntry}
use Rattle.bl_load.specs.declared.entry.Entry.{Entry}
use Rattle.bl_session.specs.menu.Menu.{MenuFacts, facts_of}
use Rattle.bl_session.specs.menu.MenuFaults.{AreEntryIndices, AreWithinLimits}
use Rattle.bl_session.specs.menu.AttemptOrder.{attempt_order}
use Rattle.bl_session.proofs.menu_lemmas.MenuLemmas.{offered_entries}
use Rattle.bl_session.proofs.menu_lemmas.OnceLemmas.{all_attempts, few_attempts}
use Rattle.std.proofs.lemmas.Bool.{false≢true}
use Rattle.std.proofs.lemmas.Result.{err_from_is_err_and}
use Rattle.bl_session.proofs.menu.Menu.new.Goals as goal

pub invariant_of-result : goal.invariant_of-result
invariant_of-result g c =
    let entries = c.args.entries.items in
    let fallbacks = c.args.fallbacks.now in
    let same : c.as_slice-offered.result.now ≡ entries = search rules in
    let named : AreEntryIndices (length entries) c.args.default fallbacks =
    subst (λ (es : List (Entry g.row.A.Denot)). AreEntryIndices (length es) c.args.default
    fallbacks)
    same (c.if-not-are_entry_indices.ensures.0 refl) in
    let small : AreWithinLimits entries =
    subst (λ (es : List (Entry g.row.A.Denot)). AreWithinLimits es) same
    (c.if-not-are_within_limits.ensures.0 refl) in
    let few = few_attempts (length entries) c.args.default fallbacks named.0 named.1 in
    let most : length (attempt_order c.args.default fallbacks) ≤ 32 =
    omega (arith, few, small.0) in (
      rw c.in_ok-attempts.ensures
          (all_attempts (length entries) c.args.default fallbacks named.0 named.1),
      small.1,
      subst (λ (es : List (Entry g.row.A.Denot)). All IsWellFormedEntry es) same
          c.entries_are_well_formed.ensures,
      rw c.in_ok-attempts.ensures most,
    )

pub returns-clause-well_formed : goal.returns-clause-well_formed
returns-clause-well_formed g c =
    offered_entries c.args.entries.items
    (subst (λ (es : List (Entry g.row.A.Denot)). All IsWellFormedEntry es)
    c.as_slice-offered.ensures.value
    c.entries_are_well_formed.ensures)

pub returns-then-not-are_entry_indices-clause-first_fault :
    goal.returns-then-not-are_entry_indices-clause-first_fault
returns-then-not-are_entry_indices-clause-first_fault g c =
    let same = c.as_slice-offered.ensures.value in (
      subst (λ (es : List (Entry g.row.A.Denot)). AreWithinLimits es) same
          (c.if-not-are_within_limits.ensures.0 refl),
      λ named. false≢true (c.if-not-are_entry_indices.ensures.1
          (subst (λ (es : List (Entry g.row.A.Denot)).
          AreEntryIndices (length es) c.args.default c.args.fallbacks.now) (sym same) named)),
    )

pub returns-in_err-attempts-clause-first_fault : goal.returns-in_err-attempts-clause-first_fault
returns-in_err-attempts-clause-first_fault g c =
    let p = err_from_is_err_and c.from_residual.result c.from_residual.ensures.1 in
    let same = c.as_slice-offered.ensures.value in
    rw (p.1, p.2) (
      subst (λ (es : List (Entry g.row.A.Denot)). AreWithinLimits es) same
          (c.if-not-are_within_limits.ensures.0 refl),
      subst (λ (es : List (Entry g.row.A.Denot)).
          AreEntryIndices (length es) c.args.default c.args.fallbacks.now) same
          (c.if-not-are_entry_indices.ensures.0 refl),
    )

pub returns-clause-allowed : goal.returns-clause-allowed
returns-clause-allowed g c =
    let entries = c.args.entries.items in
    let same = c.as_slice-offered.ensures.value in (
      subst (λ (es : List (Entry g.row.A.Denot)). AreWithinLimits es) same
          (c.if-not-are_within_limits.ensures.0 refl),
      subst (λ (es : List (Entry g.row.A.Denot)).
          AreEntryIndices (length es) c.args.default c.args.fallbacks.now) same
          (c.if-not-are_entry_indices.ensures.0 refl),
    )

pub returns-then-not-are_within_limits-clause-first_fault :
    goal.returns-then-not-are_within_limits-clause-first_fault
returns-then-not-are_within_limits-clause-first_fault g c = λ few.
    let same = c.as_slice-offered.ensures.value in
    false≢true (c.if-not-are_within_limits.ensures.1
    (subst (λ (es : List (Entry g.row.A.Denot)). AreWithinLimits es) (sym same) few))

pub returns-clause-ok : goal.returns-clause-ok
returns-clause-ok g c =
    ap (λ (attempts : List ℕ).
    let menu : MenuFacts =
    record { entries = map facts_of c.args.entries.items; attempts = attempts } in menu)
    c.in_ok-attempts.ensures

pub returns-then-not-are_within_limits-clause-ok : goal.returns-then-not-are_within_limits-clause-ok
returns-then-not-are_within_limits-clause-ok g c = tt

pub returns-then-not-are_within_limits-clause-allowed :
    goal.returns-then-not-are_within_limits-clause-allowed
returns-then-not-are_within_limits-clause-allowed g c = tt

pub returns-then-not-are_within_limits-clause-well_formed :
    goal.returns-then-not-are_within_limits-clause-well_formed
returns-then-not-are_within_limits-clause-well_formed g c = tt

pub returns-then-not-are_entry_indices-clause-ok : goal.returns-then-not-are_entry_indices-clause-ok
returns-then-not-are_entry_indices-clause-ok g c = tt

pub returns-then-not-are_entry_indices-clause-allowed :
    goal.returns-then-not-are_entry_indices-clause-allowed
returns-then-not-are_entry_indices-clause-allowed g c = tt

pub returns-then-not-are_entry_indices-clause-well_formed :
    goal.returns-then-not-are_entry_indices-clause-well_formed
returns-then-not-are_entry_indices-clause-well_formed g c = tt

pub returns-in_err-attempts-clause-ok : goal.returns-in_err-attempts-clause-ok
returns-in_err-attempts-clause-ok g c =
    let p = err_from_is_err_and c.from_residual.result c.from_residual.ensures.1 in
    rw p.1 tt

pub returns-in_err-attempts-clause-allowed : goal.returns-in_err-attempts-clause-allowed
returns-in_err-attempts-clause-allowed g c =
    let p = err_from_is_err_and c.from_residual.result c.from_residual.ensures.1 in
    rw p.1 tt

pub returns-in_err-attempts-clause-well_formed : goal.returns-in_err-attempts-clause-well_formed
returns-in_err-attempts-clause-well_formed g c =
    let p = err_from_is_err_and c.from_residual.result c.from_residual.ensures.1 in
    rw p.1 tt

pub returns-clause-first_fault : goal.returns-clause-first_fault
returns-clause-first_fault g c = tt
