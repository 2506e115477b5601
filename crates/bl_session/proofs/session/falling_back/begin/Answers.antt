use Rattle.std.proofs.Common.{◌≡◌, ◌<◌, ◌≤◌, ◌∙◌, [], length, ap, rules, refl, arith}
use Rattle.std.proofs.Common.{subst}
use Rattle.bl_session.specs.internal.attempt.AttemptStates.{IsMemoryAfterAttempt, KeepsAttempt}
use Rattle.bl_session.specs.menu.Menu.{EntryFacts, facts_of}
use Rattle.bl_session.specs.session.BootSteps.{unstarted, handed_over}
use Rattle.bl_session.specs.session.Phases.{handover_held}
use Rattle.bl_session.specs.internal.session.KeptPhases.{facts_of_boot}
use Rattle.bl_session.specs.declared.attempt.Attempt.{Attempt}
use Rattle.bl_session.specs.declared.attempt.Attempt.TheVariants.{Waits, Ended}
use Rattle.bl_session.specs.declared.attempt.AttemptEnd.TheVariants.{HandedOver, Refused}
use Rattle.bl_session.proofs.session_lemmas.AdvanceLemmas.{begins_at, begins_refused, begins_none}
use Rattle.bl_session.proofs.session_lemmas.KeptMemoryLemmas.{memory_on, same_on, keeps_on}
use Rattle.bl_session.proofs.session_lemmas.KeptMemoryLemmas.{after_on}
use Rattle.bl_session.proofs.session_lemmas.KeptMemoryLemmas.{after_scrub}
use Rattle.bl_session.proofs.attempt_lemmas.EarlyReturnLemmas.{keeps_same}
use Rattle.bl_session.proofs.session_lemmas.BootCallLemmas.{lacks_memory}
use Rattle.bl_session.proofs.session.falling_back.begin.Goals as goal

pub attempts-init : goal.attempts-init
attempts-init g c =
    record {
      number = c.requires.number;
      leads = λ state begins. begins;
      outside = λ a out. refl;
      kept = keeps_same;
    }

pub begin_attempt-requires-clause-limits : goal.begin_attempt-requires-clause-limits
begin_attempt-requires-clause-limits g c = c.entry.ensures.limits

pub begin_attempt-requires-clause-memory : goal.begin_attempt-requires-clause-memory
begin_attempt-requires-clause-memory g c = record {
  size = c.attempts.invariant.kept.size ∙ c.requires.memory.size;
  room = λ a from to. c.attempts.invariant.kept.room a (c.requires.memory.room a from to);
}

pub returns-in_err-stage-clause-kept : goal.returns-in_err-stage-clause-kept
returns-in_err-stage-clause-kept g c =
    keeps_on c.attempts.invariant.kept c.begin_attempt.ensures.kept

pub returns-in-Waits-clause-kept : goal.returns-in-Waits-clause-kept
returns-in-Waits-clause-kept g c = keeps_on c.attempts.invariant.kept c.begin_attempt.ensures.kept

pub returns-in_err-push-in-Ended-Refused-clause-kept :
    goal.returns-in_err-push-in-Ended-Refused-clause-kept
returns-in_err-push-in-Ended-Refused-clause-kept g c =
    keeps_on c.attempts.invariant.kept c.begin_attempt.ensures.kept

pub scrub-requires-clause-room : goal.scrub-requires-clause-room
scrub-requires-clause-room g c =
    λ a from to. c.attempts.invariant.kept.room a (c.requires.memory.room a from to)

pub returns-clause-kept : goal.returns-clause-kept
returns-clause-kept g c = keeps_on c.attempts.invariant.kept c.scrub.ensures.kept

pub returns-in-Ended-HandedOver-clause-kept : goal.returns-in-Ended-HandedOver-clause-kept
returns-in-Ended-HandedOver-clause-kept g c =
    keeps_on c.attempts.invariant.kept c.begin_attempt.ensures.kept

pub attempts-preserved : goal.attempts-preserved
attempts-preserved g c =
    let bytes = g.M.PhysMem.bytes in
    let facts = facts_of_boot c.args.boot.now in
    let pool = facts.machine.pool in
    let so_far = c.attempts.invariant in
    let refusal = c.in-Ended-Refused.refusal in
    let mid = bytes c.attempts.memory in
    let new = bytes c.begin_attempt.new.memory in
    let within : c.attempts.number < length facts.menu.attempts = search rules in
    let begun = c.in_ok-stage.ensures.begun.begun in
    let is : c.in_ok-stage.field-0 ≡ Ended (Refused refusal) = cc in
    record {
      number = search rules;
      leads =
          λ state further. so_far.leads state
          (begins_refused facts c.attempts.number c.entry_of-entry.result
          (facts_of c.entry.result.now) c.attempts.refused.items c.push.new.self.items new
          c.in_ok-stage.field-0 refusal state within c.entry_of-entry.ensures.entry
          c.entry.ensures.entry begun is
          c.in_ok-push-in-Ended-Refused.ensures.items further);
      outside =
          same_on pool (bytes c.args.memory.now) mid new so_far.outside
          (subst (λ (x : Attempt g.row.A.Denot). IsMemoryAfterAttempt pool mid new x) is
          c.in_ok-stage.ensures.begun.memory);
      kept = keeps_on so_far.kept c.begin_attempt.ensures.kept;
    }

pub returns-in_err-stage-clause-phase : goal.returns-in_err-stage-clause-phase
returns-in_err-stage-clause-phase g c =
    let bytes = g.M.PhysMem.bytes in
    let pool = c.args.boot.now.machine.now.pool in
    let old = bytes c.args.memory.now in
    let mid = bytes c.attempts.memory in
    let new = bytes c.begin_attempt.new.memory in
    lacks_memory _ _ _ _ _ _ c.from_residual.result c.from_residual.ensures.1
    (same_on pool old mid new c.attempts.invariant.outside c.in_err-stage.ensures.begun.err)

pub returns-in_err-push-in-Ended-Refused-clause-phase : goal.returns-in_err-push-in-Ended-Refused-clause-phase
returns-in_err-push-in-Ended-Refused-clause-phase g c =
    let bytes = g.M.PhysMem.bytes in
    let pool = c.args.boot.now.machine.now.pool in
    let old = bytes c.args.memory.now in
    let mid = bytes c.attempts.memory in
    let new = bytes c.begin_attempt.new.memory in
    let is : c.in_ok-stage.field-0 ≡ Ended (Refused c.in-Ended-Refused.refusal) = cc in
    lacks_memory _ _ _ _ _ _ c.from_residual-in_err-push-in-Ended-Refused.result c.from_residual-in_err-push-in-Ended-Refused.ensures.1
    (same_on pool old mid new c.attempts.invariant.outside
    (subst (λ (x : Attempt g.row.A.Denot). IsMemoryAfterAttempt pool mid new x) is
    c.in_ok-stage.ensures.begun.memory))

pub returns-in-Waits-clause-phase : goal.returns-in-Waits-clause-phase
returns-in-Waits-clause-phase g c = record {
  state = (let facts = facts_of_boot c.args.boot.now in
      let within : c.attempts.number < length facts.menu.attempts = search rules in
      let begun = c.in_ok-stage.ensures.begun.begun in
      c.attempts.invariant.leads _
      (begins_at facts c.attempts.number c.entry_of-entry.result (facts_of c.entry.result.now)
      c.attempts.refused.items (g.M.PhysMem.bytes c.begin_attempt.new.memory) unstarted
      c.in_ok-stage.field-0 (Waits c.in-Waits.stage) within c.entry_of-entry.ensures.entry
      c.entry.ensures.entry begun c.in-Waits.is tt));
  memory = (let bytes = g.M.PhysMem.bytes in
      let pool = c.args.boot.now.machine.now.pool in
      let old = bytes c.args.memory.now in
      let mid = bytes c.attempts.memory in
      let new = bytes c.begin_attempt.new.memory in
      same_on pool old mid new c.attempts.invariant.outside
      (subst (λ (x : Attempt g.row.A.Denot). IsMemoryAfterAttempt pool mid new x) c.in-Waits.is
      c.in_ok-stage.ensures.begun.memory));
  stands = (let machine = c.args.boot.now.machine.now in
      let facts = facts_of_boot c.args.boot.now in
      let within : c.attempts.number < length facts.menu.attempts = search rules in
      let keeps =
      subst
      (λ (x : Attempt g.row.A.Denot).
      KeepsAttempt machine (length (facts_of c.entry.result.now).files) x)
      c.in-Waits.is c.in_ok-stage.ensures.begun.keeps in (
        record {
          entry = c.entry_of-entry.ensures.inside;
          pool = keeps.0;
          files = keeps.1 ∙ ap (λ (e : EntryFacts). length e.files) c.entry.ensures.entry;
          small = keeps.2;
          below = record { files = λ f k h. absurd (omega arith); pieces = λ k h. absurd (omega arith) };
          number = omega arith;
          next = omega arith;
        },
        keeps.3,
      ));
  err = (tt);
}

pub returns-in-Ended-HandedOver-clause-phase : goal.returns-in-Ended-HandedOver-clause-phase
returns-in-Ended-HandedOver-clause-phase g c = record {
  state = (let facts = facts_of_boot c.args.boot.now in
      let within : c.attempts.number < length facts.menu.attempts = search rules in
      let begun = c.in_ok-stage.ensures.begun.begun in
      let is : c.in_ok-stage.field-0 ≡ Ended (HandedOver c.in-Ended-HandedOver.handoff) = cc in
      c.attempts.invariant.leads _
      (begins_at facts c.attempts.number c.entry_of-entry.result (facts_of c.entry.result.now)
      c.attempts.refused.items (g.M.PhysMem.bytes c.begin_attempt.new.memory) unstarted
      c.in_ok-stage.field-0 (Ended (HandedOver c.in-Ended-HandedOver.handoff)) within
      c.entry_of-entry.ensures.entry c.entry.ensures.entry begun is tt));
  memory = (let bytes = g.M.PhysMem.bytes in
      let pool = c.args.boot.now.machine.now.pool in
      let mid = bytes c.attempts.memory in
      let new = bytes c.begin_attempt.new.memory in
      let handoff = c.in-Ended-HandedOver.handoff in
      let is : c.in_ok-stage.field-0 ≡ Ended (HandedOver handoff) = cc in
      memory_on pool
      (handed_over c.entry_of-entry.result c.attempts.refused.items (handover_held new handoff))
      (bytes c.args.memory.now) mid new c.attempts.invariant.outside
      (subst (λ (x : Attempt g.row.A.Denot). IsMemoryAfterAttempt pool mid new x) is
      c.in_ok-stage.ensures.begun.memory));
  stands = (let machine = c.args.boot.now.machine.now in
      let is : c.in_ok-stage.field-0 ≡ Ended (HandedOver c.in-Ended-HandedOver.handoff) = cc in
      subst
      (λ (x : Attempt g.row.A.Denot).
      KeepsAttempt machine (length (facts_of c.entry.result.now).files) x)
      is c.in_ok-stage.ensures.begun.keeps);
  err = (tt);
}

pub returns-clause-phase : goal.returns-clause-phase
returns-clause-phase g c = record {
  state = (let facts = facts_of_boot c.args.boot.now in
      let none : length facts.menu.attempts ≤ c.attempts.number = omega arith in
      c.attempts.invariant.leads _
      (begins_none facts c.attempts.number c.attempts.refused.items none));
  memory = (let bytes = g.M.PhysMem.bytes in
      let pool = c.args.boot.now.machine.now.pool in
      let mid = bytes c.attempts.memory in
      let new = bytes c.scrub.new.memory in
      after_on pool [] (bytes c.args.memory.now) mid new c.attempts.invariant.outside
      (after_scrub pool mid new c.scrub.ensures.after));
  stands = (tt);
  err = (tt);
}
