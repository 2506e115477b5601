use Rattle.std.proofs.Common.{◌≡◌, ◌∙◌, List, Some, arith, drop, length, ap, refl, rules, subst}
use Rattle.std.proofs.Common.{sym}
use Rattle.bl_load.specs.declared.refused_entry.RefusedEntry.{RefusedEntry}
use Rattle.bl_session.specs.menu.Menu.{EntryFacts, facts_of}
use Rattle.bl_session.specs.session.BootSteps.{unstarted, handed_over, Begins, Continues}
use Rattle.bl_session.specs.internal.attempt.AttemptStates.{IsAttempt, IsMemoryAfterAttempt}
use Rattle.bl_session.specs.internal.attempt.AttemptStates.{KeepsAttempt}
use Rattle.bl_session.specs.internal.attempt.AttemptStates.{attempt_with}
use Rattle.bl_stage.specs.PieceStates.{piece_states}
use Rattle.bl_stage.specs.Staged.{Staging}
use Rattle.bl_session.specs.declared.attempt.Attempt.{Attempt}
use Rattle.bl_session.specs.internal.session.KeptPhases.{HasSmallFiles, facts_of_boot, state_of}
use Rattle.bl_session.specs.internal.session.KeptPhases.{phase_by}
use Rattle.bl_session.specs.declared.attempt.Attempt.TheVariants.{Waits, Ended}
use Rattle.bl_session.specs.declared.attempt.AttemptEnd.TheVariants.{HandedOver, Refused}
use Rattle.bl_session.specs.session.Phases.{handover_held}
use Rattle.bl_session.proofs.session_lemmas.AdvanceLemmas.{continues, continues_later}
use Rattle.bl_session.proofs.session_lemmas.AdvanceLemmas.{attempt_of_entry}
use Rattle.bl_session.proofs.session_lemmas.KeptMemoryLemmas.{memory_later}
use Rattle.bl_session.proofs.session_lemmas.StepLemmas.{outside_taken}
use Rattle.bl_session.proofs.session_lemmas.BootCallLemmas.{lacks_memory}
use Rattle.bl_session.proofs.attempt_lemmas.EarlyReturnLemmas.{on_error}
use Rattle.bl_session.proofs.menu_lemmas.MenuLemmas.{few_files}
use Rattle.bl_session.proofs.session.falling_back.continue_attempt.Goals as goal

pub advanced-running-requires : goal.advanced-running-requires
advanced-running-requires g c =
    let same = c.in_ok-finish_if_complete.ensures.ends.same c.in-None.is in
    let few = few_files c.entry.result.now c.entry.ensures.limits in
    let files = c.requires.waiting.files in
    let entry = ap (λ (e : EntryFacts). length e.files) c.entry.ensures.entry in
    rw same
    (record {
      countable =
          record { few = omega (arith, few, files, entry); small = c.requires.waiting.small };
      below = c.requires.waiting.below;
    })

pub returns-in-None-clause-phase : goal.returns-in-None-clause-phase
returns-in-None-clause-phase g c = record {
  state = (let w = c.args.running.now in
      let facts = facts_of_boot c.args.boot.now in
      let rest = drop w.next facts.menu.attempts in
      let files = piece_states (g.M.PhysMem.bytes c.args.memory.now) w.stage in
      let bytes = g.M.PhysMem.bytes c.finish_if_complete.new.memory in
      let stage = c.finish_if_complete.new.stage in
      continues {A = g.row.A.Denot} facts (Begins facts rest) w.entry rest w.earlier.items files bytes
      unstarted (Waits stage)
      (attempt_of_entry facts.machine facts.menu w.entry (facts_of c.entry.result.now) files bytes
      (attempt_with stage c.in_ok-finish_if_complete.field-0) (Waits stage) c.entry.ensures.entry
      c.in_ok-finish_if_complete.ensures.ends.attempt (ap (attempt_with stage) c.in-None.is)) tt);
  memory = (subst (λ (x : Attempt g.row.A.Denot). IsMemoryAfterAttempt c.args.boot.now.machine.now.pool
      (g.M.PhysMem.bytes c.args.memory.now) (g.M.PhysMem.bytes c.finish_if_complete.new.memory) x)
      (ap (attempt_with c.finish_if_complete.new.stage) c.in-None.is) c.in_ok-finish_if_complete.ensures.ends.memory);
  stands = (let machine = c.args.boot.now.machine.now in
      let waiting = c.requires.waiting in
      let stage = c.finish_if_complete.new.stage in
      let same = c.in_ok-finish_if_complete.ensures.ends.same c.in-None.is in
      let keeps =
      subst
      (λ (x : Attempt g.row.A.Denot).
      KeepsAttempt machine (length (facts_of c.entry.result.now).files) x)
      (ap (attempt_with stage) c.in-None.is) c.in_ok-finish_if_complete.ensures.ends.keeps in (
        record {
          entry = waiting.entry;
          pool = ap (λ (s : Staging). s.pool) same ∙ waiting.pool;
          files = ap (λ (s : Staging). length s.sizes) same ∙ waiting.files;
          small = subst (λ (s : Staging). HasSmallFiles s) (sym same) waiting.small;
          below = c.advanced-running.ensures;
          number = waiting.number;
          next = waiting.next;
        },
        keeps.3,
      ));
  err = (tt);
}

pub returns-in-Some-HandedOver-clause-phase : goal.returns-in-Some-HandedOver-clause-phase
returns-in-Some-HandedOver-clause-phase g c = record {
  state = (let w = c.args.running.now in
      let facts = facts_of_boot c.args.boot.now in
      let rest = drop w.next facts.menu.attempts in
      let files = piece_states (g.M.PhysMem.bytes c.args.memory.now) w.stage in
      let bytes = g.M.PhysMem.bytes c.finish_if_complete.new.memory in
      let stage = c.finish_if_complete.new.stage in
      let end = HandedOver c.in-Some-HandedOver.handoff in
      let one = Ended end in
      let is : c.in_ok-finish_if_complete.field-0 ≡ Some end = cc in
      let same : w.earlier.items ≡ c.replace.result.items = search rules in
      subst
      (λ (earlier : List RefusedEntry).
      Continues facts (Begins facts rest) w.entry rest w.earlier.items files
      (handed_over w.entry earlier (handover_held bytes c.in-Some-HandedOver.handoff))) same
      (continues facts (Begins facts rest) w.entry rest w.earlier.items files bytes unstarted one
      (attempt_of_entry facts.machine facts.menu w.entry (facts_of c.entry.result.now) files bytes
      (attempt_with stage c.in_ok-finish_if_complete.field-0) one c.entry.ensures.entry
      c.in_ok-finish_if_complete.ensures.ends.attempt (ap (attempt_with stage) is)) tt));
  memory = (let is : c.in_ok-finish_if_complete.field-0 ≡ Some (HandedOver c.in-Some-HandedOver.handoff) = cc in
      subst (λ (x : Attempt g.row.A.Denot). IsMemoryAfterAttempt c.args.boot.now.machine.now.pool
      (g.M.PhysMem.bytes c.args.memory.now) (g.M.PhysMem.bytes c.finish_if_complete.new.memory) x)
      (ap (attempt_with c.finish_if_complete.new.stage) is) c.in_ok-finish_if_complete.ensures.ends.memory);
  stands = (let is : c.in_ok-finish_if_complete.field-0 ≡ Some (HandedOver c.in-Some-HandedOver.handoff) = cc in
      subst (λ (x : Attempt g.row.A.Denot). KeepsAttempt c.args.boot.now.machine.now
      (length (facts_of c.entry.result.now).files) x)
      (ap (attempt_with c.finish_if_complete.new.stage) is) c.in_ok-finish_if_complete.ensures.ends.keeps);
  err = (tt);
}

pub returns-in-Some-Refused-clause-phase : goal.returns-in-Some-Refused-clause-phase
returns-in-Some-Refused-clause-phase g c = record {
  state = (let w = c.args.running.now in
      let facts = facts_of_boot c.args.boot.now in
      let rest = drop w.next facts.menu.attempts in
      let files = piece_states (g.M.PhysMem.bytes c.args.memory.now) w.stage in
      let mid = g.M.PhysMem.bytes c.finish_if_complete.new.memory in
      let new = g.M.PhysMem.bytes c.refuse.new.memory in
      let one = attempt_with c.finish_if_complete.new.stage c.in_ok-finish_if_complete.field-0 in
      let is : c.in_ok-finish_if_complete.field-0 ≡ Some (Refused c.in-Some-Refused.refusal) = cc in
      continues_later facts (Begins facts rest) w.entry rest w.earlier.items files mid one
      c.in-Some-Refused.refusal c.refuse.result
      (λ ended. state_of facts.menu.attempts new (phase_by c.refuse.new.running ended))
      (attempt_of_entry facts.machine facts.menu w.entry (facts_of c.entry.result.now) files mid
      one one c.entry.ensures.entry c.in_ok-finish_if_complete.ensures.ends.attempt refl)
      (ap (attempt_with c.finish_if_complete.new.stage) is) c.refuse.ensures.phase.state);
  memory = (let is : c.in_ok-finish_if_complete.field-0 ≡ Some (Refused c.in-Some-Refused.refusal) = cc in
      memory_later c.args.boot.now.machine.now.pool (g.M.PhysMem.bytes c.args.memory.now)
      (g.M.PhysMem.bytes c.finish_if_complete.new.memory) (g.M.PhysMem.bytes c.refuse.new.memory)
      c.refuse.result
      (λ ended. state_of (facts_of_boot c.args.boot.now).menu.attempts
      (g.M.PhysMem.bytes c.refuse.new.memory) (phase_by c.refuse.new.running ended))
      (subst (λ (x : Attempt g.row.A.Denot). IsMemoryAfterAttempt c.args.boot.now.machine.now.pool
      (g.M.PhysMem.bytes c.args.memory.now) (g.M.PhysMem.bytes c.finish_if_complete.new.memory) x)
      (ap (attempt_with c.finish_if_complete.new.stage) is) c.in_ok-finish_if_complete.ensures.ends.memory) c.refuse.ensures.phase.memory);
  stands = (c.refuse.ensures.phase.stands);
  err = (let is : c.in_ok-finish_if_complete.field-0 ≡ Some (Refused c.in-Some-Refused.refusal) = cc in
      outside_taken c.args.boot.now.machine.now.pool (g.M.PhysMem.bytes c.args.memory.now)
      (g.M.PhysMem.bytes c.finish_if_complete.new.memory) (g.M.PhysMem.bytes c.refuse.new.memory)
      c.refuse.result (subst (λ (x : Attempt g.row.A.Denot). IsMemoryAfterAttempt c.args.boot.now.machine.now.pool
      (g.M.PhysMem.bytes c.args.memory.now) (g.M.PhysMem.bytes c.finish_if_complete.new.memory) x)
      (ap (attempt_with c.finish_if_complete.new.stage) is) c.in_ok-finish_if_complete.ensures.ends.memory) c.refuse.ensures.phase.err);
}

pub returns-in_err-finish_if_complete-clause-phase : goal.returns-in_err-finish_if_complete-clause-phase
returns-in_err-finish_if_complete-clause-phase g c =
    lacks_memory _ _ _ _ _ _ c.from_residual.result c.from_residual.ensures.1
    c.in_err-finish_if_complete.ensures.ends.err

pub finish_if_complete-requires : goal.finish_if_complete-requires
finish_if_complete-requires g c = record {
  limits = c.entry.ensures.limits;
  files =
      c.requires.waiting.files ∙ sym (ap (λ (e : EntryFacts). length e.files) c.entry.ensures.entry);
  small = c.requires.waiting.small;
  pool = c.requires.waiting.pool;
  size = c.requires.memory.size;
  room = c.requires.memory.room;
}

pub refuse-requires-clause-memory : goal.refuse-requires-clause-memory
refuse-requires-clause-memory g c = record {
  size = c.finish_if_complete.ensures.kept.size ∙ c.requires.memory.size;
  room = λ a from to. c.finish_if_complete.ensures.kept.room a (c.requires.memory.room a from to);
}

pub returns-in_err-finish_if_complete-clause-whole : goal.returns-in_err-finish_if_complete-clause-whole
returns-in_err-finish_if_complete-clause-whole g c =
    on_error c.from_residual.result c.in_err-finish_if_complete.ensures.ends.whole

pub returns-in-Some-Refused-clause-whole : goal.returns-in-Some-Refused-clause-whole
returns-in-Some-Refused-clause-whole g c =
    let files = piece_states (g.M.PhysMem.bytes c.args.memory.now) c.args.running.now.stage in
    let mid = g.M.PhysMem.bytes c.finish_if_complete.new.memory in
    let is : c.in_ok-finish_if_complete.field-0 ≡ Some (Refused c.in-Some-Refused.refusal) = cc in
    let told =
    subst
    (λ (x : Attempt g.row.A.Denot).
    IsAttempt c.args.boot.now.machine.now (facts_of c.entry.result.now) files mid x)
    (ap (attempt_with c.finish_if_complete.new.stage) is)
    c.in_ok-finish_if_complete.ensures.ends.attempt in
    on_error c.refuse.result told.0
