use Rattle.std.proofs.Common.{◌≡◌, map, slice_index_or, None, Some, ap, refl, subst}
use Rattle.bl_load.specs.declared.refusal.PrepFault.{PrepFault}
use Rattle.bl_load.specs.declared.refusal.PrepFault.TheVariants.{Refused}
use Rattle.bl_stage.specs.Staged.{Staging}
use Rattle.bl_session.specs.attempt.AttemptResult.{size_refusal}
use Rattle.bl_session.specs.internal.session.KeptPhases.{IsSizeFault}
use Rattle.bl_session.specs.menu.Menu.{facts_of, files_of}
use Rattle.bl_session.proofs.attempt_lemmas.AttemptLemmas.{begun_staged, staged_lengths}
use Rattle.bl_session.proofs.attempt_lemmas.EarlyReturnLemmas.{no_value, on_error, keeps_same}
use Rattle.bl_session.proofs.attempt.begin_attempt.Goals as goal

pub begin_stage-requires : goal.begin_stage-requires
begin_stage-requires g c = c.requires.limits

pub finish_if_complete-requires : goal.finish_if_complete-requires
finish_if_complete-requires g c = record {
  limits = c.requires.limits;
  files = staged_lengths c.args.sizes.now (files_of c.args.entry.now) c.args.machine.now c.in-Ok.stage
      c.in-Ok.ensures.begun.fresh;
  small = c.in-Ok.ensures.begun.small;
  pool = ap (λ (s : Staging). s.pool) c.in-Ok.ensures.begun.fresh.1;
  size = c.requires.memory.size;
  room = c.requires.memory.room;
}

pub returns-in_err-end-in-Ok-clause-begun : goal.returns-in_err-end-in-Ok-clause-begun
returns-in_err-end-in-Ok-clause-begun g c = record {
  begun = no_value _ _ c.from_residual.result c.from_residual.ensures.1;
  keeps = no_value _ _ c.from_residual.result c.from_residual.ensures.1;
  memory = no_value _ _ c.from_residual.result c.from_residual.ensures.1;
  err = on_error c.from_residual.result c.in_err-end-in-Ok.ensures.ends.err;
}

pub returns-in_err-end-in-Ok-clause-kept : goal.returns-in_err-end-in-Ok-clause-kept
returns-in_err-end-in-Ok-clause-kept g c = c.finish_if_complete.ensures.kept

pub returns-in_ok-end-in-Ok-clause-begun : goal.returns-in_ok-end-in-Ok-clause-begun
returns-in_ok-end-in-Ok-clause-begun g c = record {
  begun = (let old = g.M.PhysMem.bytes c.args.memory.now in
      let new = g.M.PhysMem.bytes c.finish_if_complete.new.memory in
      let sizes =
      map (λ file. slice_index_or c.args.sizes.now file None) (files_of c.args.entry.now) in
      begun_staged c.args.machine.now (facts_of c.args.entry.now) sizes old new c.in-Ok.stage
      c.attempt_with.result c.in-Ok.ensures.begun.fits c.in-Ok.ensures.begun.fresh
      (rw c.attempt_with.ensures c.in_ok-end-in-Ok.ensures.ends.attempt));
  keeps = rw c.attempt_with.ensures c.in_ok-end-in-Ok.ensures.ends.keeps;
  memory = rw c.attempt_with.ensures c.in_ok-end-in-Ok.ensures.ends.memory;
  err = tt;
}

pub returns-in_ok-end-in-Ok-clause-kept : goal.returns-in_ok-end-in-Ok-clause-kept
returns-in_ok-end-in-Ok-clause-kept g c = c.finish_if_complete.ensures.kept

pub returns-in-Err-Refused-clause-begun : goal.returns-in-Err-Refused-clause-begun
returns-in-Err-Refused-clause-begun g c = record {
  begun = (let sizes =
      map (λ file. slice_index_or c.args.sizes.now file None) (files_of c.args.entry.now) in
      let same : c.in-Err-Refused.field-0 ≡ Refused c.in-Err-Refused.refusal = cc in
      let told : size_refusal c.args.machine.now sizes ≡ Some c.in-Err-Refused.refusal =
      subst (λ (fault : PrepFault). IsSizeFault c.args.machine.now sizes fault) same
      c.in-Err-Refused.ensures.fault in
      rw (told, same) refl);
  keeps = tt;
  memory = λ a out. refl;
  err = tt;
}

pub returns-in-Err-Refused-clause-kept : goal.returns-in-Err-Refused-clause-kept
returns-in-Err-Refused-clause-kept g c = keeps_same

pub returns-in-Err-NoMemory-clause-begun : goal.returns-in-Err-NoMemory-clause-begun
returns-in-Err-NoMemory-clause-begun g c =
    record { begun = tt; keeps = tt; memory = tt; err = λ a out. refl }

pub returns-in-Err-NoMemory-clause-kept : goal.returns-in-Err-NoMemory-clause-kept
returns-in-Err-NoMemory-clause-kept g c = keeps_same
