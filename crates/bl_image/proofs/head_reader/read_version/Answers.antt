use Rattle.std.proofs.Common.{◌≡◌, false, sym, ap}
use Rattle.std.specs.Prelude.{nat_le, ◌&&◌}
use Rattle.std.proofs.lemmas.Result.{err_from_is_err_and}
use Rattle.bl_mem.specs.LittleEndian.{u32_bytes}
use Rattle.bl_mem.proofs.LittleEndianLaws.{length-u32_bytes}
use Rattle.bl_image.specs.declared.fault.ImageFault.TheVariants.{BadVersion}
use Rattle.bl_image.specs.Fields.{version_field}
use Rattle.bl_image.specs.Versions.{version_number}
use Rattle.bl_image.proofs.Inputs.{comes_as}
use Rattle.bl_image.proofs.FieldLemmas.{field_cut, field_shows, word_tells}
use Rattle.bl_image.proofs.FieldTests.{not_between}
use Rattle.bl_image.proofs.HeadLemmas.{version_passes}
use Rattle.bl_image.proofs.head_reader.read_version.Goals as goal

pub returns-in_err-number : goal.returns-in_err-number
unfolding version_field
returns-in_err-number g c =
    let p = err_from_is_err_and c.from_residual.result c.from_residual.ensures.1 in
    rw (p.1, p.2)
    (record {
      field = λ fields. field_cut version_field fields _ _ _ c.in_err-number.ensures.read.cut;
      faults = c.in_err-number.ensures.read.faults;
    })

pub returns-in_default : goal.returns-in_default
unfolding version_field
returns-in_default g c =
    let n = c.in_ok-number.number in
    let fails =
    word_tells (λ k. nat_le 1 k && nat_le k 2) BadVersion n false c.in_ok-number.ensures.fits
    (not_between 1 n 2 c.in_default.ensures) in
    record {
      field = λ fields. field_shows version_field fields _ _ (u32_bytes n) c.in_ok-number.ensures.read.ok (length-u32_bytes n) fails;
      faults = c.in_ok-number.ensures.read.faults;
    }

pub returns : goal.returns
unfolding version_field
returns g c =
    let n = c.in_ok-number.number in
    let is : version_number c.in-Some.version ≡ n = c.in-Some.ensures in
    record {
      field = record {
        comes = comes_as (ap u32_bytes (sym is)) c.in_ok-number.ensures.read.ok;
        size = length-u32_bytes _;
        passes = version_passes c.in-Some.version;
      };
      faults = c.in_ok-number.ensures.read.faults;
    }
