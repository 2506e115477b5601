use Rattle.std.proofs.Common.{◌≡◌, true, false, arith, refl, ap}
use Rattle.std.specs.Prelude.{◌==◌}
use Rattle.std.proofs.lemmas.Result.{err_from_is_err_and}
use Rattle.std.proofs.lemmas.Bool.Decides.{nat_tests}
use Rattle.bl_mem.specs.LittleEndian.{u64_bytes}
use Rattle.bl_mem.proofs.LittleEndianLaws.{length-u64_bytes}
use Rattle.bl_image.specs.declared.fault.ImageFault.TheVariants.{BadHeader}
use Rattle.bl_image.specs.Fields.{absent_field}
use Rattle.bl_image.proofs.Inputs.{comes_as}
use Rattle.bl_image.proofs.FieldLemmas.{field_cut, field_shows, long_tells}
use Rattle.bl_image.proofs.register_reader.read_absent.Goals as goal

pub returns-in_err-read_u64 : goal.returns-in_err-read_u64
unfolding absent_field
returns-in_err-read_u64 g c =
    let p = err_from_is_err_and c.from_residual.result c.from_residual.ensures.1 in
    rw (p.1, p.2)
    (record {
      field = λ fields. field_cut absent_field fields _ _ _ c.in_err-read_u64.ensures.read.cut;
      faults = c.in_err-read_u64.ensures.read.faults;
    })

pub returns-then-branch-ne0 : goal.returns-then-branch-ne0
unfolding absent_field
returns-then-branch-ne0 g c =
    let n = c.in_ok-read_u64.field-0 in
    let other : n ≡ 0 → ⊥ = c.if-branch-ne0.true in
    let fails =
    long_tells (λ k. k == 0) BadHeader n false c.in_ok-read_u64.ensures.fits
    (grind (arith, nat_tests)) in
    record {
      field = λ fields. field_shows absent_field fields _ _ (u64_bytes n) c.in_ok-read_u64.ensures.read.ok (length-u64_bytes n) fails;
      faults = c.in_ok-read_u64.ensures.read.faults;
    }

pub returns : goal.returns
unfolding absent_field
returns g c = record {
  field = record {
    comes = comes_as (ap u64_bytes c.if-branch-ne0.false) c.in_ok-read_u64.ensures.read.ok;
    size = length-u64_bytes 0;
    passes = long_tells (λ k. k == 0) BadHeader 0 true (omega arith) refl;
  };
  faults = c.in_ok-read_u64.ensures.read.faults;
}
