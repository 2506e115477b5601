use Rattle.std.proofs.Common.{◌∙◌, subst, sym}
use Rattle.std.proofs.lemmas.Result.{err_from_is_err_and}
use Rattle.bl_stage.specs.Ranges.{IsSameOutside}
use Rattle.bl_session.specs.session.BootSteps.{BootFacts}
use Rattle.bl_session.specs.session.BootMemory.{IsMemoryAt}
use Rattle.bl_session.specs.session.Phases.{state_at}
use Rattle.bl_session.specs.runs.Run.{run_state_of}
use Rattle.bl_session.proofs.run_lemmas.AnswerLemmas.{running_waiting, waiting_memory}
use Rattle.bl_session.proofs.run_lemmas.RunLemmas.{heard_attempt, lacks_orders, lacks_answers}
use Rattle.bl_session.proofs.run_lemmas.RunLemmas.{memory_later}
use Rattle.bl_session.proofs.run_lemmas.RunLemmas.{room_on}
use Rattle.bl_session.proofs.session_lemmas.KeptMemoryLemmas.{keeps_on, same_on}
use Rattle.bl_session.proofs.runs.answer_loop.drive.Goals as goal

pub returns-in_err-submit_attempt-clause-ended : goal.returns-in_err-submit_attempt-clause-ended
returns-in_err-submit_attempt-clause-ended g c =
    let bytes = g.M.PhysMem.bytes in
    let given = g.S.Store.given in
    let facts = c.args.session.now.boot in
    let so_far = c.attempts.invariant in
    let first = state_at (bytes c.args.memory.now) c.args.session.now.phase in
    let old = state_at (bytes c.attempts.memory) c.attempts.session.phase in
    let p = err_from_is_err_and c.from_residual.result c.from_residual.ensures.1 in
    let waiting = sym c.is_waiting.ensures ∙ c.attempts-test.true in
    rw p.1 (
      lacks_orders facts c.attempts.session.boot (g.S.Store.files c.args.store.now)
          (given c.args.store.now) (given c.attempts.store) (given c.submit_attempt.new.store)
          (run_state_of facts first) old
          so_far.boot so_far.heard (c.in_err-submit_attempt.ensures.asked (bytes c.attempts.memory))
          (running_waiting (bytes c.attempts.memory) c.attempts.session.phase waiting),
      λ start was.
          waiting_memory facts.machine.pool c.attempts.session.phase (bytes c.attempts.memory) start
          (bytes c.attempts.memory) waiting (so_far.memory start was),
    )

pub attempts-preserved : goal.attempts-preserved
attempts-preserved g c =
    let bytes = g.M.PhysMem.bytes in
    let given = g.S.Store.given in
    let files = g.S.Store.files in
    let room = g.M.PhysMem.room in
    let facts = c.args.session.now.boot in
    let pool = facts.machine.pool in
    let so_far = c.attempts.invariant in
    let told = c.in_ok-await_end.ensures.ended in
    let first = state_at (bytes c.args.memory.now) c.args.session.now.phase in
    let old = state_at (bytes c.attempts.memory) c.attempts.session.phase in
    let new = state_at (bytes c.await_end.new.memory) c.await_end.new.session.phase in
    let waiting = sym c.is_waiting.ensures ∙ c.attempts-test.true in
    let memory =
    subst
    (λ (b : BootFacts).
    IsMemoryAt b.machine.pool new (bytes c.attempts.memory)
    (bytes c.await_end.new.memory)) so_far.boot told.memory in
    record {
      boot = told.boot ∙ so_far.boot;
      started = told.started;
      heard =
          heard_attempt facts c.attempts.session.boot (files c.args.store.now)
          (files c.attempts.store) (files c.submit_attempt.new.store) (given c.args.store.now)
          (given c.attempts.store) (given c.submit_attempt.new.store) (given c.await_end.new.store)
          (run_state_of facts first) old new so_far.boot so_far.files
          (c.submit_attempt.ensures.files ∙ so_far.files) so_far.heard
          (c.in_ok-submit_attempt.ensures.asked (bytes c.attempts.memory)) told.heard;
      memory =
          λ start was.
          memory_later pool c.attempts.session.phase c.await_end.new.session.phase start
          (bytes c.attempts.memory) (bytes c.await_end.new.memory) waiting
          (so_far.memory start was) memory;
      room =
          λ w.
          room_on pool.start pool.end (room c.attempts.memory) (room c.await_end.new.memory)
          (so_far.room waiting) c.await_end.ensures.kept.room;
      files = c.await_end.ensures.files ∙ c.submit_attempt.ensures.files ∙ so_far.files;
      kept = keeps_on so_far.kept c.await_end.ensures.kept;
    }

pub returns-in_err-await_end-clause-ended : goal.returns-in_err-await_end-clause-ended
returns-in_err-await_end-clause-ended g c =
    let bytes = g.M.PhysMem.bytes in
    let given = g.S.Store.given in
    let files = g.S.Store.files in
    let facts = c.args.session.now.boot in
    let so_far = c.attempts.invariant in
    let first = state_at (bytes c.args.memory.now) c.args.session.now.phase in
    let old = state_at (bytes c.attempts.memory) c.attempts.session.phase in
    let p =
    err_from_is_err_and c.from_residual-in_err-await_end.result
    c.from_residual-in_err-await_end.ensures.1 in
    let pool = facts.machine.pool in
    let stopped = c.in_err-await_end.ensures.ended in
    let waiting = sym c.is_waiting.ensures ∙ c.attempts-test.true in
    rw p.1 (
      lacks_answers facts c.attempts.session.boot (files c.args.store.now)
          (files c.submit_attempt.new.store) (given c.args.store.now) (given c.attempts.store)
          (given c.submit_attempt.new.store) (given c.await_end.new.store) (run_state_of facts first) old
          so_far.boot (c.submit_attempt.ensures.files ∙ so_far.files) so_far.heard
          (c.in_ok-submit_attempt.ensures.asked (bytes c.attempts.memory)) stopped.0,
      λ start was.
          same_on pool start (bytes c.attempts.memory) (bytes c.await_end.new.memory)
          (waiting_memory pool c.attempts.session.phase (bytes c.attempts.memory) start
          (bytes c.attempts.memory) waiting (so_far.memory start was))
          (subst
          (λ (b : BootFacts).
          IsSameOutside b.machine.pool (bytes c.attempts.memory) (bytes c.await_end.new.memory))
          so_far.boot stopped.1),
    )

pub returns-clause-ended : goal.returns-clause-ended
returns-clause-ended g c =
    let so_far = c.attempts.invariant in
    record {
      boot = so_far.boot;
      heard = so_far.heard;
      ended = sym c.is_waiting.ensures ∙ c.attempts-test.false;
      started = so_far.started;
      memory = so_far.memory;
    }
