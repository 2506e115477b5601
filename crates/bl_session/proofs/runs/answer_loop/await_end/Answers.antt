use Rattle.std.proofs.Common.{◌<◌, ◌∙◌, ℕ, List, subst, sym}
use Rattle.std.proofs.lemmas.Result.{err_from_is_err_and}
use Rattle.bl_stage.specs.Ranges.{IsSameOutside}
use Rattle.bl_session.specs.session.BootSteps.{BootFacts}
use Rattle.bl_session.specs.session.BootMemory.{IsMemoryAt}
use Rattle.bl_session.specs.session.Phases.{state_at}
use Rattle.bl_store.specs.History.{HistoryItem}
use Rattle.bl_session.specs.internal.runs.RunParts.{HistoryLeadsOn, all_asked, attempts_left}
use Rattle.bl_session.proofs.session_lemmas.KeptMemoryLemmas.{memory_on, same_on, keeps_on}
use Rattle.bl_session.proofs.run_lemmas.AnswerLemmas.{heard_more, heard_waiting, heard_ended}
use Rattle.bl_session.proofs.run_lemmas.AnswerLemmas.{waiting_memory, running_waiting}
use Rattle.bl_session.proofs.runs.answer_loop.await_end.Goals as goal

pub answers-preserved : goal.answers-preserved
answers-preserved g c =
    let bytes = g.M.PhysMem.bytes in
    let given = g.S.Store.given in
    let files = g.S.Store.files in
    let facts = c.args.session.now.boot in
    let so_far = c.answers.invariant in
    let told = c.in_ok-answer.ensures.taken in
    let taken = told.taken in
    let first = state_at (bytes c.args.memory.now) c.args.session.now.phase in
    let old = state_at (bytes c.answers.memory) c.answers.session.phase in
    let new = state_at (bytes c.answer.new.memory) c.answer.new.session.phase in
    let more =
    heard_more facts c.answers.session.boot (files c.args.store.now) (files c.answers.store)
    (given c.args.store.now) (given c.answers.store) (given c.answer.new.store) (all_asked first)
    old new
    so_far.boot so_far.files so_far.heard told.heard in
    let waiting = taken.goes_on c.in-Waiting.is in
    let memory =
    subst
    (λ (b : BootFacts).
    IsMemoryAt b.machine.pool new (bytes c.answers.memory) (bytes c.answer.new.memory))
    so_far.boot taken.memory in
    record {
      boot = told.boot ∙ so_far.boot;
      waiting = waiting;
      heard =
          heard_waiting facts (files c.args.store.now) (given c.args.store.now)
          (given c.answer.new.store) (all_asked first) old new c.in_ok-answer.field-0 taken.progress
          c.in-Waiting.is more;
      as_many = taken.as_many c.in-Waiting.is ∙ so_far.as_many;
      outside =
          same_on facts.machine.pool (bytes c.args.memory.now) (bytes c.answers.memory)
          (bytes c.answer.new.memory) so_far.outside
          (waiting_memory facts.machine.pool c.answer.new.session.phase (bytes c.answer.new.memory)
          (bytes c.answers.memory) (bytes c.answer.new.memory) waiting memory);
      files = c.answer.ensures.files ∙ so_far.files;
      kept = keeps_on so_far.kept c.answer.ensures.kept;
    }

pub returns-in_err-answer-clause-ended : goal.returns-in_err-answer-clause-ended
returns-in_err-answer-clause-ended g c =
    let bytes = g.M.PhysMem.bytes in
    let given = g.S.Store.given in
    let facts = c.args.session.now.boot in
    let so_far = c.answers.invariant in
    let same = c.in_err-answer.ensures.taken in
    let first = state_at (bytes c.args.memory.now) c.args.session.now.phase in
    let old = state_at (bytes c.answers.memory) c.answers.session.phase in
    let p = err_from_is_err_and c.from_residual.result c.from_residual.ensures.1 in
    rw p.1 (
      record {
        stopped = all_asked old;
        heard =
            subst
            (λ (after : List HistoryItem).
            HistoryLeadsOn facts (g.S.Store.files c.args.store.now) (given c.args.store.now) after
            (all_asked first) (all_asked old)) (sym same.1) so_far.heard;
        running =
            running_waiting (bytes c.answers.memory) c.answers.session.phase so_far.waiting;
      },
      subst
          (λ (after : List ℕ).
          IsSameOutside facts.machine.pool (bytes c.args.memory.now) after) (sym same.0)
          so_far.outside,
    )

pub returns-in_default : goal.returns-in_default
returns-in_default g c =
    let bytes = g.M.PhysMem.bytes in
    let given = g.S.Store.given in
    let files = g.S.Store.files in
    let facts = c.args.session.now.boot in
    let so_far = c.answers.invariant in
    let told = c.in_ok-answer.ensures.taken in
    let taken = told.taken in
    let first = state_at (bytes c.args.memory.now) c.args.session.now.phase in
    let old = state_at (bytes c.answers.memory) c.answers.session.phase in
    let new = state_at (bytes c.answer.new.memory) c.answer.new.session.phase in
    let more =
    heard_more facts c.answers.session.boot (files c.args.store.now) (files c.answers.store)
    (given c.args.store.now) (given c.answers.store) (given c.answer.new.store) (all_asked first)
    old new
    so_far.boot so_far.files so_far.heard told.heard in
    let memory =
    subst
    (λ (b : BootFacts).
    IsMemoryAt b.machine.pool new (bytes c.answers.memory) (bytes c.answer.new.memory))
    so_far.boot taken.memory in
    record {
      ended = record {
        boot = told.boot ∙ so_far.boot;
        heard =
            heard_ended facts (files c.args.store.now) (given c.args.store.now)
            (given c.answer.new.store) (all_asked first) old new c.in_ok-answer.field-0
            taken.progress
            c.in_default.not-Waiting more;
        fewer =
            subst (λ n. attempts_left new < n) so_far.as_many
            (taken.fewer c.in_default.not-Waiting);
        started = taken.started;
        memory =
            memory_on facts.machine.pool new (bytes c.args.memory.now) (bytes c.answers.memory)
            (bytes c.answer.new.memory) so_far.outside memory;
      };
      files = c.answer.ensures.files ∙ so_far.files;
      kept = keeps_on so_far.kept c.answer.ensures.kept;
    }
