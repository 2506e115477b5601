use Rattle.std.proofs.Common.{◌≡◌, true, false, arith, refl, ap}
use Rattle.std.specs.Prelude.{◌==◌}
use Rattle.std.proofs.lemmas.Result.{err_from_is_err_and}
use Rattle.std.proofs.lemmas.Bool.Decides.{nat_tests}
use Rattle.bl_mem.specs.LittleEndian.{u32_bytes}
use Rattle.bl_mem.proofs.LittleEndianLaws.{length-u32_bytes}
use Rattle.bl_image.specs.declared.fault.ImageFault.TheVariants.{BadHeader}
use Rattle.bl_image.specs.Fields.{zero_field}
use Rattle.bl_image.proofs.Inputs.{comes_as}
use Rattle.bl_image.proofs.FieldLemmas.{field_cut, field_shows, word_tells}
use Rattle.bl_image.proofs.head_reader.read_zero.Goals as goal

pub returns-in_err-read_u32 : goal.returns-in_err-read_u32
unfolding zero_field
returns-in_err-read_u32 g c =
    let p = err_from_is_err_and c.from_residual.result c.from_residual.ensures.1 in
    rw (p.1, p.2)
    (record {
      field = λ fields. field_cut zero_field fields _ _ _ c.in_err-read_u32.ensures.read.cut;
      faults = c.in_err-read_u32.ensures.read.faults;
    })

pub returns-then-branch-ne0 : goal.returns-then-branch-ne0
unfolding zero_field
returns-then-branch-ne0 g c =
    let n = c.in_ok-read_u32.field-0 in
    let other : n ≡ 0 → ⊥ = c.if-branch-ne0.true in
    let fails =
    word_tells (λ k. k == 0) BadHeader n false c.in_ok-read_u32.ensures.fits
    (grind (arith, nat_tests)) in
    record {
      field = λ fields. field_shows zero_field fields _ _ (u32_bytes n) c.in_ok-read_u32.ensures.read.ok (length-u32_bytes n) fails;
      faults = c.in_ok-read_u32.ensures.read.faults;
    }

pub returns : goal.returns
unfolding zero_field
returns g c = record {
  field = record {
    comes = comes_as (ap u32_bytes c.if-branch-ne0.false) c.in_ok-read_u32.ensures.read.ok;
    size = length-u32_bytes 0;
    passes = word_tells (λ k. k == 0) BadHeader 0 true (omega arith) refl;
  };
  faults = c.in_ok-read_u32.ensures.read.faults;
}
