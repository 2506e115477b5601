use Rattle.std.proofs.Common.{refl, arith, subst, sym}
use Rattle.std.proofs.lemmas.Result.{err_from_is_err_and}
use Rattle.bl_store.specs.Events.{EventFacts, fault}
use Rattle.bl_session.specs.session.Phases.{state_at}
use Rattle.bl_store.specs.Events.{event_facts}
use Rattle.bl_session.specs.runs.Run.{IsEventOf}
use Rattle.bl_session.proofs.run_lemmas.AnswerLemmas.{event_answered, event_lost, heard_answer}
use Rattle.bl_session.proofs.run_lemmas.AnswerLemmas.{lost}
use Rattle.bl_session.proofs.run_lemmas.HearLemmas.{hears}
use Rattle.bl_session.proofs.attempt_lemmas.EarlyReturnLemmas.{keeps_same}
use Rattle.bl_session.proofs.runs.answer_loop.answer.Goals as goal

pub returns-in_err-completion-clause-taken : goal.returns-in_err-completion-clause-taken
returns-in_err-completion-clause-taken g c =
    let p = err_from_is_err_and c.from_residual.result c.from_residual.ensures.1 in
    rw p.1 (refl, c.in_err-completion.ensures.err.0)

pub returns-in_err-completion-clause-kept : goal.returns-in_err-completion-clause-kept
returns-in_err-completion-clause-kept g c = keeps_same

pub returns-in-Some-clause-taken : goal.returns-in-Some-clause-taken
returns-in-Some-clause-taken g c =
    let bytes = g.M.PhysMem.bytes in
    let session = c.args.session.now in
    let old = bytes c.args.memory.now in
    let new = bytes c.event-in-Some.new.memory in
    let files = g.S.Store.files c.args.store.now in
    let given = g.S.Store.given in
    let told = c.event-in-Some.ensures in
    let item = c.in_ok-completion.ensures.given in
    let answered = rw c.in-Some.is at item.1 in
    let fewer = rw c.in-Some.is at c.in_ok-completion.ensures.fewer in
    let is =
    subst
    (λ (event : EventFacts).
    IsEventOf files (given c.args.store.now) (state_at old session.phase) item.0 event)
    (sym c.event.ensures)
    (event_answered files (given c.args.store.now) session.phase old c.in-Some.completion item.0
    c.requires.waiting answered) in
    record {
      boot = told.boot;
      heard =
          heard_answer session.boot files (given c.args.store.now) (given c.next.new.self)
          (state_at old session.phase) (state_at new c.event-in-Some.new.self.phase) item.0
          (event_facts c.event.result) is item.2 told.step;
      taken =
          hears session c.event-in-Some.new.self (event_facts c.event.result) old new c.event-in-Some.result
          c.requires.waiting told.step told.progress told.memory;
      left = λ waits. omega (arith, fewer);
    }

pub returns-in-None-clause-taken : goal.returns-in-None-clause-taken
returns-in-None-clause-taken g c =
    let bytes = g.M.PhysMem.bytes in
    let session = c.args.session.now in
    let old = bytes c.args.memory.now in
    let new = bytes c.event-in-None.new.memory in
    let files = g.S.Store.files c.args.store.now in
    let given = g.S.Store.given in
    let told = c.event-in-None.ensures in
    let item = c.in_ok-completion.ensures.given in
    let nothing_came = rw c.in-None.is at item.1 in
    let ticket = c.first_missing_ticket-ticket.result in
    let first = c.first_missing_ticket-ticket.ensures old in
    let event = fault ticket in
    record {
      boot = told.boot;
      heard =
          heard_answer session.boot files (given c.args.store.now) (given c.next.new.self)
          (state_at old session.phase) (state_at new c.event-in-None.new.self.phase) item.0 event
          (event_lost files (given c.args.store.now) session.phase old ticket item.0
          c.requires.waiting nothing_came first) item.2 told.step;
      taken =
          hears session c.event-in-None.new.self event old new c.event-in-None.result c.requires.waiting told.step
          told.progress told.memory;
      left =
          λ waits.
          absurd
          (lost session.boot session.phase c.event-in-None.new.self.phase old new ticket c.event-in-None.result
          c.requires.waiting first told.step told.progress waits);
    }
