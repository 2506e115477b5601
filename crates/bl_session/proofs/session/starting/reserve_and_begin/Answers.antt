use Rattle.std.proofs.Common.{◌≡◌, List, [], ℕ, ap, rules, slice_index, subst}
use Rattle.bl_load.specs.declared.refused_entry.RefusedEntry.{RefusedEntry}
use Rattle.bl_session.specs.session.BootSteps.{Begins}
use Rattle.bl_session.specs.internal.session.KeptPhases.{facts_of_boot}
use Rattle.bl_session.specs.internal.session.BootCalls.{LeadsToPhase}
use Rattle.bl_session.proofs.session_lemmas.BootCallLemmas.{lacks_memory}
use Rattle.bl_session.proofs.session.starting.reserve_and_begin.Goals as goal

pub returns-in_err-reserve_pool-clause-phase : goal.returns-in_err-reserve_pool-clause-phase
returns-in_err-reserve_pool-clause-phase g c =
    lacks_memory _ _ _ _ _ _ c.from_residual.result c.from_residual.ensures.1
    (λ a out. ap (λ (bytes : List ℕ). slice_index bytes a) c.reserve_pool.ensures.same)

pub begin-requires-clause-memory : goal.begin-requires-clause-memory
begin-requires-clause-memory g c = c.in_ok-reserve_pool.ensures.room

pub returns-clause-phase : goal.returns-clause-phase
returns-clause-phase g c =
    let boot = c.args.boot.now in
    let facts = facts_of_boot boot in
    let bytes = g.M.PhysMem.bytes in
    let none : c.new.result.items ≡ [] = search rules in
    let led =
    subst
    (λ (earlier : List RefusedEntry). LeadsToPhase boot (Begins facts facts.menu.attempts earlier)
    (λ phase. phase) (bytes c.reserve_pool.new.memory) (bytes c.begin.new.memory) c.begin.result)
    none c.begin.ensures.phase in
    subst
    (λ (old : List ℕ). LeadsToPhase boot (Begins facts facts.menu.attempts []) (λ phase. phase) old
    (bytes c.begin.new.memory) c.begin.result)
    c.reserve_pool.ensures.same led
