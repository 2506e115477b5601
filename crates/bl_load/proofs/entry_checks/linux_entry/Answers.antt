use Rattle.std.proofs.Common.{arith, refl}
use Rattle.std.proofs.lemmas.Result.{err_from_is_err_and}
use Rattle.bl_load.proofs.LineLemmas.{sound_short, one_sound}
use Rattle.bl_load.proofs.OneReadingLaws.{not_two}
use Rattle.bl_load.proofs.entry_checks.linux_entry.Goals as goal

pub invariant_of-entry : goal.invariant_of-entry
invariant_of-entry g c = record {
  sound = c.in_ok-check_line.ensures;
  short = sound_short c.args.line.now c.in_ok-check_line.ensures;
  sound_modules = λ k d within. absurd (omega arith);
  few = omega arith;
  old = rw c.requires.none tt;
  new = rw c.requires.none tt;
}

pub returns-clause-entry : goal.returns-clause-entry
returns-clause-entry g c = record {
  machine = refl;
  texts = refl;
  is = rw c.requires.none refl;
  lines = one_sound c.args.line.now c.in_ok-check_line.ensures;
  some = c.requires.files;
  each = λ is. absurd (not_two c.args.protocol is c.requires.params);
}

pub returns-in_err-check_line-clause-entry : goal.returns-in_err-check_line-clause-entry
returns-in_err-check_line-clause-entry g c =
    let p = err_from_is_err_and c.from_residual.result c.from_residual.ensures.1 in
    rw p.1 tt

pub returns-in_err-check_line-clause-fault : goal.returns-in_err-check_line-clause-fault
returns-in_err-check_line-clause-fault g c =
    let p = err_from_is_err_and c.from_residual.result c.from_residual.ensures.1 in
    rw (p.1, p.2) (rw c.in_err-check_line.ensures refl)
