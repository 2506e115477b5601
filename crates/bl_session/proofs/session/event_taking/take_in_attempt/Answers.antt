use Rattle.std.proofs.Common.{◌∙◌, ap, drop, arith, length, refl, rules, subst, sym}
use Rattle.bl_map.proofs.PoolLemmas.{pool_in_memory}
use Rattle.bl_stage.specs.PieceStates.{piece_states}
use Rattle.bl_stage.specs.Staged.{Staging}
use Rattle.bl_session.specs.session.BootSteps.{is_wanted}
use Rattle.bl_store.specs.Events.{fault, piece}
use Rattle.bl_session.specs.session.Phases.{boot_facts}
use Rattle.bl_session.specs.internal.session.KeptPhases.{state_of, phase_by, HasSmallFiles}
use Rattle.bl_session.specs.internal.session.KeptPhases.{IsPhaseKept}
use Rattle.bl_session.proofs.attempt_lemmas.CursorLemmas.{none_below_later}
use Rattle.bl_session.proofs.attempt_lemmas.EarlyReturnLemmas.{keeps_same}
use Rattle.bl_session.proofs.session_lemmas.KeptMemoryLemmas.{keeps_on}
use Rattle.bl_session.specs.declared.session.phase.Phase.TheVariants.{Waits}
use Rattle.bl_session.proofs.session_lemmas.StepLemmas.{wanted_not, steps_unchanged, wanted_stored}
use Rattle.bl_session.proofs.session_lemmas.StepLemmas.{piece_states_after, steps_piece}
use Rattle.bl_session.proofs.session_lemmas.StepLemmas.{lacks_piece, memory_taken, memory_same}
use Rattle.bl_session.proofs.session_lemmas.StepLemmas.{other_attempt, outside_taken}
use Rattle.bl_session.proofs.session_lemmas.TakenLemmas.{fault_taken, not_taken}
use Rattle.bl_session.proofs.session.event_taking.take_in_attempt.Goals as goal

pub continue_attempt-requires-clause-waiting : goal.continue_attempt-requires-clause-waiting
continue_attempt-requires-clause-waiting g c =
    let w = c.args.running.now in
    let waiting = c.requires.kept.0 in
    let old = g.M.PhysMem.bytes c.args.memory.now in
    let mid = g.M.PhysMem.bytes c.put-answer.new.memory in
    let bytes = c.in-Piece.bytes.now in
    let ticket = c.in-Piece.ticket in
    let told = c.put-answer.ensures.answer in
    let stored = c.if-not-is_stored.ensures in
    let is = c.put-answer.ensures.stored stored in
    record {
      entry = waiting.entry;
      pool = ap (λ (s : Staging). s.pool) is ∙ waiting.pool;
      files = ap (λ (s : Staging). length s.sizes) is ∙ waiting.files;
      small = subst (λ (s : Staging). HasSmallFiles s) (sym is)
          (record { all = waiting.small.all });
      below =
          none_below_later old mid w.stage c.put-answer.new.self ticket bytes w.cursor.file
          w.cursor.piece
          (piece_states_after old mid w.stage c.put-answer.new.self ticket bytes
          c.put-answer.result told stored (c.put-answer.ensures.piece_states stored))
          waiting.below;
      number = waiting.number;
      next = waiting.next;
    }

pub put-answer-requires-clause-inside : goal.put-answer-requires-clause-inside
put-answer-requires-clause-inside g c = rw c.requires.kept.0.pool (λ some.
    let end = pool_in_memory c.args.boot.now.machine.now c.pool.ensures.facts some in
    omega (arith, end, c.requires.memory.size))

pub returns-then-not-is_stored-clause-taken : goal.returns-then-not-is_stored-clause-taken
returns-then-not-is_stored-clause-taken g c = rw c.in-Piece.is
    (record {
      step = (let menu = c.args.boot.now.menu.now in
          let w = c.args.running.now in
          let old = g.M.PhysMem.bytes c.args.memory.now in
          let new = g.M.PhysMem.bytes c.put-answer.new.memory in
          let bytes = c.in-Piece.bytes.now in
          let same = c.put-answer.ensures.unchanged c.if-not-is_stored.ensures in
          steps_unchanged (boot_facts c.args.boot.now.machine.now menu c.args.boot.now.sizes.now) w.entry
          (drop w.next menu.attempts) w.earlier.items old new w.stage c.put-answer.new.self
          (piece c.in-Piece.ticket bytes) same.0 same.1
          (wanted_not old w.stage w.earlier.items c.in-Piece.ticket bytes c.put-answer.result
          c.put-answer.ensures.answer c.if-not-is_stored.ensures));
      lacking = (tt);
      memory = (let w = c.args.running.now in
          let old = g.M.PhysMem.bytes c.args.memory.now in
          let new = g.M.PhysMem.bytes c.put-answer.new.memory in
          let bytes = c.in-Piece.bytes.now in
          let other = c.if-not-is_stored.ensures in
          memory_same (is_wanted w.earlier.items (piece_states old w.stage) (piece c.in-Piece.ticket bytes)) _
          old
          new
          (wanted_not old w.stage w.earlier.items c.in-Piece.ticket bytes c.put-answer.result
          c.put-answer.ensures.answer other)
          (c.put-answer.ensures.unchanged other).1);
      unchanged = (λ not_taken. (refl, ap (λ (s : Staging). record c.args.running.now { stage = s }) (c.put-answer.ensures.unchanged c.if-not-is_stored.ensures).0));
      stands = (let w = c.args.running.now in
          let same = c.put-answer.ensures.unchanged c.if-not-is_stored.ensures in
          subst
          (λ (s : Staging).
          IsPhaseKept {A = g.row.A.Denot} c.args.boot.now.machine.now c.args.boot.now.menu.now
          (Waits (record w { stage = s }))) (sym same.0)
          (c.requires.kept.0, c.requires.kept.1));
      err = (tt);
    })

pub returns-else-not-is_stored-clause-taken : goal.returns-else-not-is_stored-clause-taken
returns-else-not-is_stored-clause-taken g c = rw c.in-Piece.is
    (record {
      step = (let menu = c.args.boot.now.menu.now in
          let w = c.args.running.now in
          let old = g.M.PhysMem.bytes c.args.memory.now in
          let mid = g.M.PhysMem.bytes c.put-answer.new.memory in
          let new = g.M.PhysMem.bytes c.continue_attempt.new.memory in
          let bytes = c.in-Piece.bytes.now in
          let ticket = c.in-Piece.ticket in
          let answer = c.put-answer.result in
          let told = c.put-answer.ensures.answer in
          let stored = c.if-not-is_stored.ensures in
          steps_piece (boot_facts c.args.boot.now.machine.now menu c.args.boot.now.sizes.now) w.entry
          (drop w.next menu.attempts) w.earlier.items (piece_states old w.stage)
          (piece_states mid c.put-answer.new.self) ticket bytes c.continue_attempt.result
          (λ ended. state_of menu.attempts new (phase_by c.continue_attempt.new.running ended))
          (wanted_stored old w.stage w.earlier.items ticket bytes c.is_of.result answer c.is_of.ensures
          c.if-not-is_of.false told stored)
          (piece_states_after old mid w.stage c.put-answer.new.self ticket bytes answer told stored
          (c.put-answer.ensures.piece_states stored)) c.continue_attempt.ensures.phase.state);
      lacking = (let menu = c.args.boot.now.menu.now in
          let w = c.args.running.now in
          let old = g.M.PhysMem.bytes c.args.memory.now in
          let mid = g.M.PhysMem.bytes c.put-answer.new.memory in
          let bytes = c.in-Piece.bytes.now in
          let ticket = c.in-Piece.ticket in
          let answer = c.put-answer.result in
          let told = c.put-answer.ensures.answer in
          let stored = c.if-not-is_stored.ensures in
          lacks_piece w.entry (drop w.next menu.attempts) w.earlier.items (piece_states old w.stage)
          (piece_states mid c.put-answer.new.self) ticket bytes c.continue_attempt.result
          (wanted_stored old w.stage w.earlier.items ticket bytes c.is_of.result answer c.is_of.ensures
          c.if-not-is_of.false told stored)
          (piece_states_after old mid w.stage c.put-answer.new.self ticket bytes answer told stored
          (c.put-answer.ensures.piece_states stored)) c.continue_attempt.ensures.whole);
      memory = (let menu = c.args.boot.now.menu.now in
          let w = c.args.running.now in
          let old = g.M.PhysMem.bytes c.args.memory.now in
          let mid = g.M.PhysMem.bytes c.put-answer.new.memory in
          let new = g.M.PhysMem.bytes c.continue_attempt.new.memory in
          let bytes = c.in-Piece.bytes.now in
          let ticket = c.in-Piece.ticket in
          let answer = c.put-answer.result in
          let told = c.put-answer.ensures.answer in
          let stored = c.if-not-is_stored.ensures in
          memory_taken c.args.boot.now.machine.now.pool
          (is_wanted w.earlier.items (piece_states old w.stage) (piece ticket bytes)) old mid new
          c.continue_attempt.result (λ ended. state_of menu.attempts new (phase_by c.continue_attempt.new.running ended))
          (wanted_stored old w.stage w.earlier.items ticket bytes c.is_of.result answer c.is_of.ensures
          c.if-not-is_of.false told stored) (search rules) c.continue_attempt.ensures.phase.memory);
      unchanged = (λ not_taken.
          let w = c.args.running.now in
          let wanted =
          wanted_stored (g.M.PhysMem.bytes c.args.memory.now) w.stage w.earlier.items c.in-Piece.ticket
          c.in-Piece.bytes.now c.is_of.result c.put-answer.result c.is_of.ensures c.if-not-is_of.false
          c.put-answer.ensures.answer c.if-not-is_stored.ensures in
          absurd cc);
      stands = (c.continue_attempt.ensures.phase.stands);
      err = (let old = g.M.PhysMem.bytes c.args.memory.now in
          let mid = g.M.PhysMem.bytes c.put-answer.new.memory in
          let new = g.M.PhysMem.bytes c.continue_attempt.new.memory in
          outside_taken c.args.boot.now.machine.now.pool old mid new c.continue_attempt.result (search rules)
          c.continue_attempt.ensures.phase.err);
    })

pub continue_attempt-requires-clause-memory : goal.continue_attempt-requires-clause-memory
continue_attempt-requires-clause-memory g c = record {
  size = c.put-answer.ensures.kept.size ∙ c.requires.memory.size;
  room = λ a from to. c.put-answer.ensures.kept.room a (c.requires.memory.room a from to);
}

pub returns-then-not-is_of-clause-taken : goal.returns-then-not-is_of-clause-taken
returns-then-not-is_of-clause-taken g c =
    let w = c.args.running.now in
    let old = g.M.PhysMem.bytes c.args.memory.now in
    let ticket = c.in-Piece.ticket in
    let bytes = c.in-Piece.bytes.now in
    rw c.in-Piece.is
    (not_taken c.args.boot.now (piece ticket bytes) w old
    (other_attempt w.earlier.items (piece_states old w.stage) ticket bytes c.is_of.result
    c.is_of.ensures c.if-not-is_of.true)
    c.requires.kept)

pub returns-then-not-awaits_fault-clause-taken : goal.returns-then-not-awaits_fault-clause-taken
returns-then-not-awaits_fault-clause-taken g c =
    let bytes = g.M.PhysMem.bytes c.args.memory.now in
    rw c.in-Fault.is
    (not_taken c.args.boot.now (fault c.in-Fault.ticket) c.args.running.now bytes
    (sym (c.if-not-awaits_fault.ensures bytes)) c.requires.kept)

pub returns-else-not-awaits_fault-clause-taken : goal.returns-else-not-awaits_fault-clause-taken
returns-else-not-awaits_fault-clause-taken g c =
    let bytes = g.M.PhysMem.bytes c.args.memory.now in
    rw c.in-Fault.is
    (fault_taken c.args.boot.now c.in-Fault.ticket c.args.running.now c.refuse.new.running bytes
    (g.M.PhysMem.bytes c.refuse.new.memory) c.refuse.result
    (sym (c.if-not-awaits_fault.ensures bytes)) c.refuse.ensures.phase)

pub returns-then-not-is_of-clause-kept : goal.returns-then-not-is_of-clause-kept
returns-then-not-is_of-clause-kept g c = keeps_same

pub returns-then-not-is_stored-clause-kept : goal.returns-then-not-is_stored-clause-kept
returns-then-not-is_stored-clause-kept g c = c.put-answer.ensures.kept

pub returns-else-not-is_stored-clause-kept : goal.returns-else-not-is_stored-clause-kept
returns-else-not-is_stored-clause-kept g c =
    keeps_on c.put-answer.ensures.kept c.continue_attempt.ensures.kept

pub returns-then-not-awaits_fault-clause-kept : goal.returns-then-not-awaits_fault-clause-kept
returns-then-not-awaits_fault-clause-kept g c = keeps_same

pub returns-else-not-awaits_fault-clause-kept : goal.returns-else-not-awaits_fault-clause-kept
returns-else-not-awaits_fault-clause-kept g c = c.refuse.ensures.kept

pub put-answer-requires-clause-room : goal.put-answer-requires-clause-room
put-answer-requires-clause-room g c = rw c.requires.kept.0.pool c.requires.memory.room

pub refuse-requires-clause-number : goal.refuse-requires-clause-number
refuse-requires-clause-number g c = c.requires.kept.0.number

pub refuse-requires-clause-memory : goal.refuse-requires-clause-memory
refuse-requires-clause-memory g c = c.requires.memory
