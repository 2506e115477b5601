use Rattle.std.proofs.Common.{List, [], None, map, refl, sym, subst, ap, option_map}
use Rattle.bl_stage.specs.Files.{size_of}
use Rattle.bl_store.specs.History.{HistoryItem}
use Rattle.bl_session.specs.session.Phases.{PhaseFacts, boot_facts, state_at}
use Rattle.bl_session.specs.runs.Run.{IsRun}
use Rattle.bl_session.specs.session.Phases.{final_phase}
use Rattle.bl_session.specs.session.BootMemory.{IsMemoryAt}
use Rattle.bl_session.proofs.session_lemmas.EndedLemmas.{ended_with, has_end}
use Rattle.bl_session.proofs.run_lemmas.ScheduleLaws.{run_ended}
use Rattle.bl_session.proofs.run_lemmas.FaithfulLaws.{faithful_is_genuine}
use Rattle.bl_session.proofs.runs.run.Goals as goal

pub returns-in-Some-clause-outcome : goal.returns-in-Some-clause-outcome
returns-in-Some-clause-outcome g c = λ faults genuine over.
    let phase = c.in-Ok.session.phase in
    let end =
    ended_with phase c.into_outcome.result c.in-Some.end c.in-Ok.ensures.run.started
    c.in-Ok.ensures.run.ended c.into_outcome.ensures.end c.in-Some.is in
    let bytes = g.M.PhysMem.bytes c.run_session.new.memory in
    let files = g.S.Store.files c.args.store.now in
    let old = g.S.Store.given c.args.store.now in
    let new = g.S.Store.given c.run_session.new.store in
    let facts = boot_facts c.args.machine.now c.args.menu.now (map size_of files) in
    let run =
    subst (λ (p : PhaseFacts). IsRun facts files old new (state_at bytes p))
    (sym end) c.in-Ok.ensures.run.run in
    run_ended facts files faults refl old new (state_at bytes (final_phase c.in-Some.end)) run
    genuine over

pub returns-in-Some-clause-faithful : goal.returns-in-Some-clause-faithful
returns-in-Some-clause-faithful g c = λ none faithful over.
    let phase = c.in-Ok.session.phase in
    let end =
    ended_with phase c.into_outcome.result c.in-Some.end c.in-Ok.ensures.run.started
    c.in-Ok.ensures.run.ended c.into_outcome.ensures.end c.in-Some.is in
    let bytes = g.M.PhysMem.bytes c.run_session.new.memory in
    let files = g.S.Store.files c.args.store.now in
    let old = g.S.Store.given c.args.store.now in
    let new = g.S.Store.given c.run_session.new.store in
    let facts = boot_facts c.args.machine.now c.args.menu.now (map size_of files) in
    let state = state_at bytes (final_phase c.in-Some.end) in
    let run =
    subst (λ (p : PhaseFacts). IsRun facts files old new (state_at bytes p))
    (sym end) c.in-Ok.ensures.run.run in
    let from_none =
    subst (λ (first : List HistoryItem). IsRun facts files first new state) none
    run in
    run_ended facts files (λ attempt. None) refl [] new state from_none
    (faithful_is_genuine facts files refl new faithful) over

pub returns-in-Some-clause-run : goal.returns-in-Some-clause-run
returns-in-Some-clause-run g c =
    let phase = c.in-Ok.session.phase in
    let end =
    ended_with phase c.into_outcome.result c.in-Some.end c.in-Ok.ensures.run.started
    c.in-Ok.ensures.run.ended c.into_outcome.ensures.end c.in-Some.is in
    let files = g.S.Store.files c.args.store.now in
    subst
    (λ (p : PhaseFacts). IsRun
    (boot_facts c.args.machine.now c.args.menu.now (map size_of files)) files
    (g.S.Store.given c.args.store.now) (g.S.Store.given c.run_session.new.store)
    (state_at (g.M.PhysMem.bytes c.run_session.new.memory) p)) (sym end) c.in-Ok.ensures.run.run

pub returns-in-Some-clause-memory : goal.returns-in-Some-clause-memory
returns-in-Some-clause-memory g c =
    let phase = c.in-Ok.session.phase in
    let end =
    ended_with phase c.into_outcome.result c.in-Some.end c.in-Ok.ensures.run.started
    c.in-Ok.ensures.run.ended c.into_outcome.ensures.end c.in-Some.is in
    let new = g.M.PhysMem.bytes c.run_session.new.memory in
    subst
    (λ (p : PhaseFacts). IsMemoryAt c.args.machine.now.pool (state_at new p)
    (g.M.PhysMem.bytes c.args.memory.now) new) (sym end) c.in-Ok.ensures.run.memory

pub returns-in-Some-clause-inside : goal.returns-in-Some-clause-inside
returns-in-Some-clause-inside g c =
    rw c.in-Ok.ensures.run.on_machine at (rw c.in-Some.is at c.into_outcome.ensures.inside)

pub unreachable-requires : goal.unreachable-requires
unreachable-requires g c =
    has_end c.in-Ok.session.phase (option_map final_phase c.into_outcome.result)
    c.in-Ok.ensures.run.started c.in-Ok.ensures.run.ended c.into_outcome.ensures.end
    (ap (option_map final_phase) c.in-None.is)

pub returns-in-Err-clause-outcome : goal.returns-in-Err-clause-outcome
returns-in-Err-clause-outcome g c = λ faults genuine ended. absurd ended

pub returns-in-Err-clause-faithful : goal.returns-in-Err-clause-faithful
returns-in-Err-clause-faithful g c = λ none faithful ended. absurd ended
