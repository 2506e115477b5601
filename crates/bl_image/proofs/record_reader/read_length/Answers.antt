use Rattle.std.proofs.Common.{◌+◌, ◌^◌, true, false, sym}
use Rattle.std.specs.Prelude.{nat_le, ◌&&◌}
use Rattle.std.proofs.lemmas.Result.{err_from_is_err_and}
use Rattle.bl_mem.specs.LittleEndian.{u64_bytes}
use Rattle.bl_mem.proofs.LittleEndianLaws.{length-u64_bytes}
use Rattle.bl_image.specs.declared.fault.ImageFault.TheVariants.{BadPart}
use Rattle.bl_image.specs.Fields.{length_field}
use Rattle.bl_image.proofs.FieldLemmas.{field_cut, field_shows, long_tells}
use Rattle.bl_image.proofs.record_reader.read_length.Goals as goal

pub returns-in_err-count-clause-read : goal.returns-in_err-count-clause-read
unfolding length_field
returns-in_err-count-clause-read g c =
    let p = err_from_is_err_and c.from_residual.result c.from_residual.ensures.1 in
    rw (p.1, p.2)
    (record {
      field = λ fields. field_cut (length_field c.args.part c.args.address) fields _ _ _ c.in_err-count.ensures.read.cut;
      faults = c.in_err-count.ensures.read.faults;
    })

pub returns-then-not-may_have-clause-read : goal.returns-then-not-may_have-clause-read
unfolding length_field
returns-then-not-may_have-clause-read g c =
    let n = c.in_ok-count.count in
    let fails =
    long_tells (λ k. nat_le 1 k && nat_le (c.args.address + k) (2 ^ 32)) (BadPart c.args.part) n
    false c.in_ok-count.ensures.fits (sym c.if-not-may_have.ensures) in
    record {
      field = λ fields. field_shows (length_field c.args.part c.args.address) fields _ _ (u64_bytes n) c.in_ok-count.ensures.read.ok (length-u64_bytes n) fails;
      faults = c.in_ok-count.ensures.read.faults;
    }

pub returns-clause-read : goal.returns-clause-read
unfolding length_field
returns-clause-read g c =
    let n = c.in_ok-count.count in
    record {
      field = record {
        comes = c.in_ok-count.ensures.read.ok;
        size = length-u64_bytes n;
        passes =
            long_tells (λ k. nat_le 1 k && nat_le (c.args.address + k) (2 ^ 32)) (BadPart c.args.part)
            n true c.in_ok-count.ensures.fits (sym c.if-not-may_have.ensures);
      };
      faults = c.in_ok-count.ensures.read.faults;
    }
