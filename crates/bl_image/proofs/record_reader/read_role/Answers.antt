use Rattle.std.proofs.Common.{◌≡◌, true, false, sym, ap}
use Rattle.std.specs.Prelude.{nat_le, ◌&&◌}
use Rattle.std.proofs.lemmas.Result.{err_from_is_err_and}
use Rattle.bl_mem.specs.LittleEndian.{u32_bytes}
use Rattle.bl_mem.proofs.LittleEndianLaws.{length-u32_bytes}
use Rattle.bl_plan.specs.RoleNumbers as roles
use Rattle.bl_image.specs.declared.fault.ImageFault.TheVariants.{BadPart}
use Rattle.bl_image.specs.Fields.{role_field}
use Rattle.bl_image.specs.Layouts.{max_role}
use Rattle.bl_image.proofs.Inputs.{comes_as}
use Rattle.bl_image.proofs.NumbersAgain.{role_fits, role_between}
use Rattle.bl_image.proofs.FieldLemmas.{field_cut, field_shows, word_tells}
use Rattle.bl_image.proofs.FieldTests.{not_between}
use Rattle.bl_image.proofs.record_reader.read_role.Goals as goal

pub returns-in_err-number-clause-read : goal.returns-in_err-number-clause-read
unfolding role_field
returns-in_err-number-clause-read g c =
    let p = err_from_is_err_and c.from_residual.result c.from_residual.ensures.1 in
    rw (p.1, p.2)
    (record {
      field = λ fields. field_cut (role_field (max_role c.args.wide) c.args.part) fields _ _ _ c.in_err-number.ensures.read.cut;
      faults = c.in_err-number.ensures.read.faults;
    })

pub returns-in_default-clause-read : goal.returns-in_default-clause-read
unfolding role_field
returns-in_default-clause-read g c =
    let n = c.in_ok-number.number in
    let fails =
    word_tells (λ k. nat_le 1 k && nat_le k (max_role c.args.wide)) (BadPart c.args.part) n false
    c.in_ok-number.ensures.fits
    (not_between 1 n (max_role c.args.wide) c.in_default.ensures.number) in
    record {
      field = λ fields. field_shows (role_field (max_role c.args.wide) c.args.part) fields _ _ (u32_bytes n) c.in_ok-number.ensures.read.ok (length-u32_bytes n) fails;
      faults = c.in_ok-number.ensures.read.faults;
    }

pub returns-clause-read : goal.returns-clause-read
unfolding role_field
returns-clause-read g c =
    let n = c.in_ok-number.number in
    let is : roles.role_number c.in-Some.role ≡ n = c.in-Some.ensures.number in
    record {
      field = record {
        comes = comes_as (ap u32_bytes (sym is)) c.in_ok-number.ensures.read.ok;
        size = length-u32_bytes _;
        passes =
            word_tells (λ k. nat_le 1 k && nat_le k (max_role c.args.wide))
            (BadPart c.args.part) _ true
            (role_fits c.in-Some.role)
            (role_between c.args.wide c.in-Some.role c.in-Some.ensures.may);
      };
      faults = c.in_ok-number.ensures.read.faults;
    }
