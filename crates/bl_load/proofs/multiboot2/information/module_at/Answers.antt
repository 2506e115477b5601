use Rattle.std.proofs.Common.{refl, arith, sym, subst}
use Rattle.bl_mbi.specs.InfoToWriteFacts.{IsText}
use Rattle.bl_load.proofs.multiboot2.information.module_at.Goals as goal

pub returns-clause-fits : goal.returns-clause-fits
returns-clause-fits c =
    let at = c.address_of-mod_start.ensures in
    let end = c.requires.end in
    record {
      forward = omega arith;
      small = omega (arith, at, end);
      line = subst IsText (sym c.text_of.ensures.same) c.text_of.ensures.text;
    }

pub returns-clause-told : goal.returns-clause-told
returns-clause-told c = rw (c.address_of-mod_start.ensures, c.text_of.ensures.same) refl
