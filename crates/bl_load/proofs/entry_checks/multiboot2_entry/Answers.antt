use Rattle.std.proofs.Common.{arith, refl}
use Rattle.std.proofs.lemmas.Result.{err_from_is_err_and}
use Rattle.bl_load.specs.EntryValue.{line_fault, lines_fault}
use Rattle.bl_load.specs.internal.Multiboot2Entries.{lines_of_modules}
use Rattle.bl_load.proofs.LineLemmas.{sound_short, first_sound, all_sound}
use Rattle.bl_load.proofs.entry_checks.multiboot2_entry.Goals as goal

pub invariant_of-entry : goal.invariant_of-entry
invariant_of-entry g c =
    let sound =
    first_sound (line_fault c.args.line.now) (lines_fault (lines_of_modules c.args.modules.now))
    c.in_ok-check_lines.ensures in
    record {
      sound = sound.0;
      short = sound_short c.args.line.now sound.0;
      sound_modules = all_sound c.args.modules.now sound.1;
      few = c.requires.few;
      old = c.requires.old;
      new = c.requires.new;
    }

pub returns-clause-entry : goal.returns-clause-entry
returns-clause-entry g c = record {
  machine = refl;
  texts = refl;
  is = refl;
  lines = c.in_ok-check_lines.ensures;
  some = omega (arith, c.requires.files);
  each = λ _. c.requires.files;
}

pub returns-in_err-check_lines-clause-entry : goal.returns-in_err-check_lines-clause-entry
returns-in_err-check_lines-clause-entry g c =
    let p = err_from_is_err_and c.from_residual.result c.from_residual.ensures.1 in
    rw p.1 tt

pub returns-in_err-check_lines-clause-fault : goal.returns-in_err-check_lines-clause-fault
returns-in_err-check_lines-clause-fault g c =
    let p = err_from_is_err_and c.from_residual.result c.from_residual.ensures.1 in
    rw (p.1, p.2) c.in_err-check_lines.ensures
