use Rattle.std.proofs.Common.{◌≡◌, false, sym, ap}
use Rattle.std.specs.Prelude.{nat_le, ◌&&◌}
use Rattle.bl_plan.specs.Protocols as protocols
use Rattle.std.proofs.lemmas.Result.{err_from_is_err_and}
use Rattle.bl_mem.specs.LittleEndian.{u32_bytes}
use Rattle.bl_mem.proofs.LittleEndianLaws.{length-u32_bytes}
use Rattle.bl_image.specs.declared.fault.ImageFault.TheVariants.{BadHeader}
use Rattle.bl_image.specs.Fields.{protocol_field}
use Rattle.bl_image.specs.Versions.{version_number, max_protocol}
use Rattle.bl_image.proofs.Inputs.{comes_as}
use Rattle.bl_image.proofs.FieldLemmas.{field_cut, field_shows, word_tells}
use Rattle.bl_image.proofs.FieldTests.{not_between}
use Rattle.bl_image.proofs.HeadLemmas.{protocol_passes}
use Rattle.bl_image.proofs.head_reader.read_protocol.Goals as goal

pub returns-in_err-number-clause-read : goal.returns-in_err-number-clause-read
unfolding protocol_field
returns-in_err-number-clause-read g c =
    let p = err_from_is_err_and c.from_residual.result c.from_residual.ensures.1 in
    let version = version_number c.args.version in
    rw (p.1, p.2)
    (record {
      field = λ fields. field_cut (protocol_field version) fields _ _ _ c.in_err-number.ensures.read.cut;
      faults = c.in_err-number.ensures.read.faults;
    })

pub returns-in_default-clause-read : goal.returns-in_default-clause-read
unfolding protocol_field
returns-in_default-clause-read g c =
    let n = c.in_ok-number.number in
    let version = version_number c.args.version in
    let fails =
    word_tells (λ k. nat_le 1 k && nat_le k (max_protocol version)) BadHeader n false
    c.in_ok-number.ensures.fits
    (not_between 1 n (max_protocol version) c.in_default.ensures.number) in
    record {
      field = λ fields. field_shows (protocol_field version) fields _ _ (u32_bytes n) c.in_ok-number.ensures.read.ok (length-u32_bytes n) fails;
      faults = c.in_ok-number.ensures.read.faults;
    }

pub returns-clause-read : goal.returns-clause-read
unfolding protocol_field
returns-clause-read g c =
    let n = c.in_ok-number.number in
    let is : protocols.protocol_number c.in-Some.protocol ≡ n = c.in-Some.ensures.number in
    record {
      field = record {
        comes = comes_as (ap u32_bytes (sym is)) c.in_ok-number.ensures.read.ok;
        size = length-u32_bytes _;
        passes = protocol_passes c.args.version c.in-Some.protocol c.in-Some.ensures.has;
      };
      faults = c.in_ok-number.ensures.read.faults;
    }
