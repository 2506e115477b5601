use Rattle.std.proofs.Common.{◌^◌, true, false, arith}
use Rattle.std.specs.Prelude.{nat_lt}
use Rattle.std.proofs.lemmas.Result.{err_from_is_err_and}
use Rattle.std.proofs.lemmas.Bool.Decides.{nat_tests}
use Rattle.bl_mem.specs.LittleEndian.{u64_bytes}
use Rattle.bl_mem.proofs.LittleEndianLaws.{length-u64_bytes}
use Rattle.bl_image.specs.declared.fault.ImageFault.TheVariants.{BadHeader}
use Rattle.bl_image.specs.Fields.{zero_extended_field}
use Rattle.bl_image.proofs.FieldLemmas.{field_cut, field_shows, long_tells}
use Rattle.bl_image.proofs.register_reader.read_narrow.Goals as goal

pub returns-in_err-number-clause-read : goal.returns-in_err-number-clause-read
unfolding zero_extended_field
returns-in_err-number-clause-read g c =
    let p = err_from_is_err_and c.from_residual.result c.from_residual.ensures.1 in
    rw (p.1, p.2)
    (record {
      field = λ fields. field_cut zero_extended_field fields _ _ _ c.in_err-number.ensures.read.cut;
      faults = c.in_err-number.ensures.read.faults;
    })

pub returns-then-number-clause-read : goal.returns-then-number-clause-read
unfolding zero_extended_field
returns-then-number-clause-read g c =
    let n = c.in_ok-number.number in
    let fails =
    long_tells (λ k. nat_lt k (2 ^ 32)) BadHeader n false c.in_ok-number.ensures.fits
    (grind (arith, nat_tests)) in
    record {
      field = λ fields. field_shows zero_extended_field fields _ _ (u64_bytes n) c.in_ok-number.ensures.read.ok (length-u64_bytes n) fails;
      faults = c.in_ok-number.ensures.read.faults;
    }

pub returns-clause-read : goal.returns-clause-read
unfolding zero_extended_field
returns-clause-read g c =
    let n = c.in_ok-number.number in
    record {
      field = record {
        comes = c.in_ok-number.ensures.read.ok;
        size = length-u64_bytes n;
        passes =
            long_tells (λ k. nat_lt k (2 ^ 32)) BadHeader n true c.in_ok-number.ensures.fits
            (grind (arith, nat_tests));
      };
      faults = c.in_ok-number.ensures.read.faults;
    }
