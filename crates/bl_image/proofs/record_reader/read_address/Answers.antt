use Rattle.std.proofs.Common.{◌≤◌, ◌<◌, true, false, arith}
use Rattle.std.specs.Prelude.{nat_le}
use Rattle.std.proofs.lemmas.Result.{err_from_is_err_and}
use Rattle.std.proofs.lemmas.Bool.Decides.{nat_tests}
use Rattle.bl_mem.specs.LittleEndian.{u64_bytes}
use Rattle.bl_mem.proofs.LittleEndianLaws.{length-u64_bytes}
use Rattle.bl_image.specs.declared.fault.ImageFault.TheVariants.{BadPart}
use Rattle.bl_image.specs.Fields.{address_field}
use Rattle.bl_image.proofs.FieldLemmas.{field_cut, field_shows, long_tells}
use Rattle.bl_image.proofs.record_reader.read_address.Goals as goal

pub returns-in_err-address-clause-read : goal.returns-in_err-address-clause-read
unfolding address_field
returns-in_err-address-clause-read g c =
    let p = err_from_is_err_and c.from_residual.result c.from_residual.ensures.1 in
    rw (p.1, p.2)
    (record {
      field = λ fields. field_cut (address_field c.args.part c.args.before) fields _ _ _ c.in_err-address.ensures.read.cut;
      faults = c.in_err-address.ensures.read.faults;
    })

pub returns-then-address-before-clause-read : goal.returns-then-address-before-clause-read
unfolding address_field
returns-then-address-before-clause-read g c =
    let n = c.in_ok-address.address in
    let low : n < c.args.before = c.if-address-before.true in
    let fails =
    long_tells (nat_le c.args.before) (BadPart c.args.part) n false c.in_ok-address.ensures.fits
    (grind (arith, nat_tests)) in
    record {
      field = λ fields. field_shows (address_field c.args.part c.args.before) fields _ _ (u64_bytes n) c.in_ok-address.ensures.read.ok (length-u64_bytes n) fails;
      faults = c.in_ok-address.ensures.read.faults;
    }

pub returns-clause-read : goal.returns-clause-read
unfolding address_field
returns-clause-read g c =
    let n = c.in_ok-address.address in
    let above : c.args.before ≤ n = omega arith in
    record {
      field = record {
        comes = c.in_ok-address.ensures.read.ok;
        size = length-u64_bytes n;
        passes =
            long_tells (nat_le c.args.before) (BadPart c.args.part) n true
            c.in_ok-address.ensures.fits (grind (arith, nat_tests));
      };
      faults = c.in_ok-address.ensures.read.faults;
    }

pub returns-clause-above : goal.returns-clause-above
returns-clause-above g c = omega arith
