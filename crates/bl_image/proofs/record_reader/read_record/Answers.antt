use Rattle.std.proofs.Common.{List, ℕ, [], ◌∷◌, Option}
use Rattle.bl_image.specs.declared.fault.ImageFault.{ImageFault}
use Rattle.bl_image.specs.ImageFaults.{record_fault}
use Rattle.bl_image.specs.Layouts.{max_role}
use Rattle.std.proofs.lemmas.Result.{err_from_is_err_and}
use Rattle.bl_mem.specs.LittleEndian.{u64_at, u32_bytes, u64_bytes}
use Rattle.bl_plan.specs.RoleNumbers as roles
use Rattle.bl_image.specs.Fields.{fields_fault, record_fields, role_field, index_field}
use Rattle.bl_image.specs.Fields.{address_field, length_field}
use Rattle.std.proofs.Common.{drop, arith}
use Rattle.bl_image.proofs.Inputs.{comes_more, comes_as}
use Rattle.bl_image.proofs.FieldLemmas.{Passed, passed_none, passed_field, passed_refuses, field_cut}
use Rattle.bl_image.proofs.RecordLemmas.{first_refuses, record_front, four_pieces, index_passes}
use Rattle.bl_image.proofs.record_reader.read_record.Goals as goal

pub returns-in_err-role-clause-read : goal.returns-in_err-role-clause-read
returns-in_err-role-clause-read g c =
    let p = err_from_is_err_and c.from_residual.result c.from_residual.ensures.1 in
    let later : List ℕ → Option ImageFault =
    λ bytes. fields_fault (length_field c.args.part (u64_at bytes 8) ∷ []) (drop 16 bytes) in
    rw (p.1, p.2)
    (record {
      ok = tt;
      refused = (first_refuses (fields_fault (record_fields (max_role c.args.wide) c.args.part c.args.before)) later _ _ _ (passed_refuses (passed_none (fields_fault (record_fields (max_role c.args.wide) c.args.part c.args.before)) _) _ _ (c.in_err-role.ensures.read.field (index_field c.args.part ∷ address_field c.args.part c.args.before ∷ []))));
      faults = omega (arith, c.in_err-role.ensures.read.faults);
    })

pub returns-in_err-index-clause-read : goal.returns-in_err-index-clause-read
unfolding index_field
returns-in_err-index-clause-read g c =
    let p =
    err_from_is_err_and c.from_residual-in_err-index.result
    c.from_residual-in_err-index.ensures.1 in
    let later : List ℕ → Option ImageFault =
    λ bytes. fields_fault (length_field c.args.part (u64_at bytes 8) ∷ []) (drop 16 bytes) in
    let p1 =
    passed_field (role_field (max_role c.args.wide) c.args.part)
    (index_field c.args.part ∷ address_field c.args.part c.args.before ∷ [])
    _ (passed_none
    (fields_fault (record_fields (max_role c.args.wide) c.args.part c.args.before)) _)
    c.in_ok-role.ensures.read.field in
    rw (p.1, p.2)
    (record {
      ok = tt;
      refused = (first_refuses (fields_fault (record_fields (max_role c.args.wide) c.args.part c.args.before)) later _ _ _ (passed_refuses p1 _ _ (field_cut (index_field c.args.part) (address_field c.args.part c.args.before ∷ []) _ _ _ c.in_err-index.ensures.read.cut)));
      faults = omega (arith, c.in_ok-role.ensures.read.faults, c.in_err-index.ensures.read.faults);
    })

pub returns-in_err-address-clause-read : goal.returns-in_err-address-clause-read
returns-in_err-address-clause-read g c =
    let p =
    err_from_is_err_and c.from_residual-in_err-address.result
    c.from_residual-in_err-address.ensures.1 in
    let later : List ℕ → Option ImageFault =
    λ bytes. fields_fault (length_field c.args.part (u64_at bytes 8) ∷ []) (drop 16 bytes) in
    let p1 =
    passed_field (role_field (max_role c.args.wide) c.args.part)
    (index_field c.args.part ∷ address_field c.args.part c.args.before ∷ [])
    _ (passed_none
    (fields_fault (record_fields (max_role c.args.wide) c.args.part c.args.before)) _)
    c.in_ok-role.ensures.read.field in
    let p2 =
    passed_field (index_field c.args.part) (address_field c.args.part c.args.before ∷ []) _ p1
    (index_passes c.args.part c.in_ok-index.index c.in_ok-index.ensures.read.ok) in
    rw (p.1, p.2)
    (record {
      ok = tt;
      refused = (first_refuses (fields_fault (record_fields (max_role c.args.wide) c.args.part c.args.before)) later _ _ _ (passed_refuses p2 _ _ (c.in_err-address.ensures.read.field ([]))));
      faults = omega (arith, c.in_ok-role.ensures.read.faults, c.in_ok-index.ensures.read.faults, c.in_err-address.ensures.read.faults);
    })

pub returns-in_err-length-clause-read : goal.returns-in_err-length-clause-read
returns-in_err-length-clause-read g c =
    let p =
    err_from_is_err_and c.from_residual-in_err-length.result
    c.from_residual-in_err-length.ensures.1 in
    let came =
    comes_more
    (comes_more c.in_ok-role.ensures.read.field.comes
    c.in_ok-index.ensures.read.ok)
    c.in_ok-address.ensures.read.field.comes in
    let passed : Passed (record_fault (max_role c.args.wide) c.args.part c.args.before)
    _ _ (fields_fault (length_field c.args.part c.in_ok-address.address ∷ [])) = record {
      done = _;
      comes = came;
      on =
          λ bytes.
          record_front c.args.wide c.args.part c.args.before c.in_ok-role.role
          c.in_ok-index.index c.in_ok-address.address bytes c.in_ok-role.ensures.may
          c.in_ok-index.ensures.fits
          c.in_ok-address.ensures.fits c.in_ok-address.ensures.above;
    } in
    rw (p.1, p.2)
    (record {
      ok = tt;
      refused = (passed_refuses passed _ _ (c.in_err-length.ensures.read.field []));
      faults = omega (arith, c.in_ok-role.ensures.read.faults, c.in_ok-index.ensures.read.faults, c.in_ok-address.ensures.read.faults, c.in_err-length.ensures.read.faults);
    })

pub returns-clause-read : goal.returns-clause-read
returns-clause-read g c =
    let front =
    comes_more
    (comes_more c.in_ok-role.ensures.read.field.comes
    c.in_ok-index.ensures.read.ok)
    c.in_ok-address.ensures.read.field.comes in
    record {
      ok = comes_as (four_pieces (u32_bytes (roles.role_number c.in_ok-role.role)) (u32_bytes c.in_ok-index.index) (u64_bytes c.in_ok-address.address) (u64_bytes c.in_ok-length.length)) (comes_more front c.in_ok-length.ensures.read.field.comes);
      refused = tt;
      faults = omega (arith, c.in_ok-role.ensures.read.faults, c.in_ok-index.ensures.read.faults, c.in_ok-address.ensures.read.faults, c.in_ok-length.ensures.read.faults);
    }
