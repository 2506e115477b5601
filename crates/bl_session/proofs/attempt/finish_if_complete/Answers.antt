use Rattle.std.proofs.Common.{arith, ◌≡◌, ◌+◌, ◌≤◌, ◌∙◌, ℕ, List, All, true, ap, refl, sym}
use Rattle.std.proofs.Common.{subst, slice_index}
use Rattle.bl_load.specs.Handover.{Handover}
use Rattle.bl_load.specs.declared.refusal.PrepFault.{PrepFault}
use Rattle.bl_load.specs.declared.refusal.PrepFault.TheVariants.{Refused, NoMemory}
use Rattle.bl_load.specs.MemoryAfter.{IsMemoryAfter}
use Rattle.bl_load.specs.EntryValue.{value_of}
use Rattle.bl_stage.specs.Staged.{staged_texts}
use Rattle.bl_session.specs.attempt.AttemptResult.{handed, refused, HasWholeFilesResult}
use Rattle.bl_session.specs.attempt.FinishedAttempt.{IsNotHandedOver}
use Rattle.bl_session.specs.session.Phases.{handover_held}
use Rattle.bl_session.proofs.attempt_lemmas.AttemptLemmas.{not_whole, ends_by_piece_states}
use Rattle.bl_session.proofs.attempt_lemmas.WholeLemmas.{came_whole}
use Rattle.std.proofs.lemmas.Grind.{common_steps}
use Rattle.bl_session.proofs.attempt_lemmas.EarlyReturnLemmas.{keeps_same}
use Rattle.bl_session.proofs.attempt.finish_if_complete.Goals as goal

pub returns-then-not-complete-clause-kept : goal.returns-then-not-complete-clause-kept
returns-then-not-complete-clause-kept g c = keeps_same

pub finish_attempt-requires-clause-complete : goal.finish_attempt-requires-clause-complete
finish_attempt-requires-clause-complete g c = c.if-not-complete.ensures.exact.0 refl

pub finish_attempt-requires-clause-limits : goal.finish_attempt-requires-clause-limits
finish_attempt-requires-clause-limits g c = c.requires.limits

pub finish_attempt-requires-clause-pool : goal.finish_attempt-requires-clause-pool
finish_attempt-requires-clause-pool g c = c.requires.pool

pub finish_attempt-requires-clause-size : goal.finish_attempt-requires-clause-size
finish_attempt-requires-clause-size g c = c.requires.size

pub finish_attempt-requires-clause-room : goal.finish_attempt-requires-clause-room
finish_attempt-requires-clause-room g c = c.requires.room

pub returns-in-Ok-clause-kept : goal.returns-in-Ok-clause-kept
returns-in-Ok-clause-kept g c = c.finish_attempt.ensures.kept

pub returns-in-Err-Refused-clause-kept : goal.returns-in-Err-Refused-clause-kept
returns-in-Err-Refused-clause-kept g c = c.finish_attempt.ensures.kept

pub returns-in-Err-NoMemory-clause-kept : goal.returns-in-Err-NoMemory-clause-kept
returns-in-Err-NoMemory-clause-kept g c = c.finish_attempt.ensures.kept

pub finish_attempt-requires-clause-files : goal.finish_attempt-requires-clause-files
finish_attempt-requires-clause-files g c = grind (arith, common_steps, c.requires.files)

pub returns-then-not-complete-clause-ends : goal.returns-then-not-complete-clause-ends
returns-then-not-complete-clause-ends g c = record {
  attempt = (let bytes = g.M.PhysMem.bytes c.args.memory.now in (
    not_whole bytes c.args.stage.now c.complete.result c.are_staged.ensures
        c.complete.ensures.exact c.if-not-complete.true,
    refl,
  ));
  keeps = ((
    c.requires.pool,
    c.requires.files,
    c.requires.small,
    record {
      lacks =
          λ came.
          absurd
          (let whole : c.complete.result ≡ true = c.complete.ensures.exact.1 came in cc);
    },
  ));
  memory = (λ a out. refl);
  same = (λ none. refl);
  err = (tt);
  whole = (tt);
}

pub returns-in-Ok-clause-ends : goal.returns-in-Ok-clause-ends
returns-in-Ok-clause-ends g c = record {
  attempt = (let bytes = g.M.PhysMem.bytes c.args.memory.now in
      let new = g.M.PhysMem.bytes c.finish_attempt.new.memory in
      let stage = c.args.stage.now in
      let facts = c.args.machine.now in
      let came = c.if-not-complete.ensures.exact.0 refl in
      let kept = c.are_staged.ensures in
      let told = c.in-Ok.ensures.ok in
      let ends =
      subst
      (λ (h : Handover).
      HasWholeFilesResult facts (value_of (staged_texts bytes stage) c.args.entry.now) (handed h))
      (sym told.held) told.ends in (
        came_whole bytes stage kept came,
        ends_by_piece_states facts c.args.entry.now bytes stage
            (handed (handover_held new c.in-Ok.handoff)) kept came ends,
      ));
  keeps = (let kept = c.finish_attempt.ensures.kept in
      subst
      (λ (size : ℕ).
      All (λ place. place.address + place.length ≤ size) c.in-Ok.handoff.places)
      (kept.size ∙ c.requires.size) c.in-Ok.ensures.ok.inside);
  memory = (let bytes = g.M.PhysMem.bytes in
      let told = c.in-Ok.ensures.ok in
      subst
      (λ (h : Handover).
      IsMemoryAfter c.args.machine.now.pool h.parts (bytes c.args.memory.now)
      (bytes c.finish_attempt.new.memory))
      (sym told.held) told.after);
  same = (λ none. absurd cc);
  err = (tt);
  whole = (tt);
}

pub returns-in-Err-Refused-clause-ends : goal.returns-in-Err-Refused-clause-ends
returns-in-Err-Refused-clause-ends g c = record {
  attempt = (let bytes = g.M.PhysMem.bytes c.args.memory.now in
      let stage = c.args.stage.now in
      let came = c.if-not-complete.ensures.exact.0 refl in
      let kept = c.are_staged.ensures in
      let new = g.M.PhysMem.bytes c.finish_attempt.new.memory in
      let value = value_of (staged_texts bytes stage) c.args.entry.now in
      let same : c.in-Err-Refused.field-0 ≡ Refused c.in-Err-Refused.refusal = cc in
      let told =
      subst (λ (fault : PrepFault). IsNotHandedOver c.args.machine.now value fault bytes new) same
      c.in-Err-Refused.ensures.err in (
        came_whole bytes stage kept came,
        ends_by_piece_states c.args.machine.now c.args.entry.now bytes stage
            (refused c.in-Err-Refused.refusal) kept came told.0,
      ));
  keeps = (tt);
  memory = (let bytes = g.M.PhysMem.bytes in
      let old = bytes c.args.memory.now in
      let new = bytes c.finish_attempt.new.memory in
      let value = value_of (staged_texts old c.args.stage.now) c.args.entry.now in
      let same : c.in-Err-Refused.field-0 ≡ Refused c.in-Err-Refused.refusal = cc in
      let told =
      subst (λ (fault : PrepFault). IsNotHandedOver c.args.machine.now value fault old new) same
      c.in-Err-Refused.ensures.err in
      λ a out. ap (λ (texts : List ℕ). slice_index texts a) told.1);
  same = (λ none. absurd cc);
  err = (tt);
  whole = (tt);
}

pub returns-in-Err-NoMemory-clause-ends : goal.returns-in-Err-NoMemory-clause-ends
returns-in-Err-NoMemory-clause-ends g c = record {
  attempt = (tt);
  keeps = (tt);
  memory = (tt);
  same = (tt);
  err = (let bytes = g.M.PhysMem.bytes in
      let old = bytes c.args.memory.now in
      let new = bytes c.finish_attempt.new.memory in
      let value = value_of (staged_texts old c.args.stage.now) c.args.entry.now in
      let same : c.in-Err-NoMemory.field-0 ≡ NoMemory = cc in
      subst (λ (fault : PrepFault). IsNotHandedOver c.args.machine.now value fault old new) same
      c.in-Err-NoMemory.ensures.err);
  whole = (came_whole (g.M.PhysMem.bytes c.args.memory.now) c.args.stage.now c.are_staged.ensures
      (c.if-not-complete.ensures.exact.0 refl));
}
