use Rattle.std.proofs.Common.{[], ◌∷◌, arith}
use Rattle.std.proofs.lemmas.Result.{err_from_is_err_and}
use Rattle.bl_plan.specs.Protocols.{protocol_number}
use Rattle.bl_image.specs.Fields.{fields_fault, opening_fields, magic_field, version_field}
use Rattle.bl_image.specs.Fields.{count_field, zero_field}
use Rattle.bl_image.specs.Layouts.{layout}
use Rattle.bl_image.specs.Versions.{version_number}
use Rattle.bl_image.proofs.Inputs.{comes_more, comes_as}
use Rattle.bl_image.proofs.HeadLemmas.{opened_passed, told_passed, opening_refuses}
use Rattle.bl_image.proofs.FrontLemmas.{head_is}
use Rattle.bl_image.proofs.HeadLemmas.{protocol_refuses}
use Rattle.bl_image.proofs.FieldLemmas.{passed_none, passed_field, passed_refuses}
use Rattle.bl_image.proofs.RegisterLemmas.{passed_all}
use Rattle.bl_image.proofs.head_reader.read_head.Goals as goal

pub returns-in_err-read_magic-clause-read : goal.returns-in_err-read_magic-clause-read
returns-in_err-read_magic-clause-read g c =
    let p = err_from_is_err_and c.from_residual.result c.from_residual.ensures.1 in
    rw (p.1, p.2)
    (record {
      ok = tt;
      refused = (opening_refuses _ _ _ (c.in_err-read_magic.ensures.field (version_field ∷ [])));
      faults = omega (arith, c.in_err-read_magic.ensures.faults);
    })

pub returns-in_err-version-clause-read : goal.returns-in_err-version-clause-read
returns-in_err-version-clause-read g c =
    let p =
    err_from_is_err_and c.from_residual-in_err-version.result
    c.from_residual-in_err-version.ensures.1 in
    let p1 =
    passed_field magic_field (version_field ∷ [])
    _ (passed_none (fields_fault opening_fields) _) c.in_ok-read_magic.ensures.field in
    rw (p.1, p.2)
    (record {
      ok = tt;
      refused = (opening_refuses _ _ _ (passed_refuses p1 _ _ (c.in_err-version.ensures.field [])));
      faults = omega (arith, c.in_ok-read_magic.ensures.faults, c.in_err-version.ensures.faults);
    })

pub returns-in_err-protocol-clause-read : goal.returns-in_err-protocol-clause-read
returns-in_err-protocol-clause-read g c =
    let p =
    err_from_is_err_and c.from_residual-in_err-protocol.result
    c.from_residual-in_err-protocol.ensures.1 in
    let v = c.in_ok-version.version in
    let n = version_number v in
    let p2 =
    opened_passed c.in_ok-version.version c.in_ok-read_magic.ensures.field.comes
    c.in_ok-version.ensures.field.comes in
    rw (p.1, p.2)
    (record {
      ok = tt;
      refused = (protocol_refuses n p2 _ _ (c.in_err-protocol.ensures.read.field []));
      faults = omega (arith, c.in_ok-read_magic.ensures.faults, c.in_ok-version.ensures.faults, c.in_err-protocol.ensures.read.faults);
    })

pub returns-in_err-registers-clause-read : goal.returns-in_err-registers-clause-read
returns-in_err-registers-clause-read g c =
    let p =
    err_from_is_err_and c.from_residual-in_err-registers.result
    c.from_residual-in_err-registers.ensures.1 in
    let v = c.in_ok-version.version in
    let p2 =
    opened_passed c.in_ok-version.version c.in_ok-read_magic.ensures.field.comes
    c.in_ok-version.ensures.field.comes in
    let p3 =
    told_passed v c.in_ok-protocol.protocol c.in_ok-protocol.ensures.has p2
    c.in_ok-protocol.ensures.read.field.comes in
    rw (p.1, p.2)
    (record {
      ok = tt;
      refused = (passed_refuses p3 _ _ (c.in_err-registers.ensures.read.fields (count_field ∷ zero_field ∷ [])));
      faults = omega (arith, c.in_ok-read_magic.ensures.faults, c.in_ok-version.ensures.faults, c.in_ok-protocol.ensures.read.faults, c.in_err-registers.ensures.read.faults);
    })

pub returns-in_err-count-clause-read : goal.returns-in_err-count-clause-read
returns-in_err-count-clause-read g c =
    let p =
    err_from_is_err_and c.from_residual-in_err-count.result
    c.from_residual-in_err-count.ensures.1 in
    let v = c.in_ok-version.version in
    let n = version_number v in
    let p2 =
    opened_passed c.in_ok-version.version c.in_ok-read_magic.ensures.field.comes
    c.in_ok-version.ensures.field.comes in
    let p3 =
    told_passed v c.in_ok-protocol.protocol c.in_ok-protocol.ensures.has p2
    c.in_ok-protocol.ensures.read.field.comes in
    let p4 =
    passed_all (layout n (protocol_number c.in_ok-protocol.protocol)).registers
    (count_field ∷ zero_field ∷ []) _ p3
    c.in_ok-registers.ensures.read.fields in
    rw (p.1, p.2)
    (record {
      ok = tt;
      refused = (passed_refuses p4 _ _ (c.in_err-count.ensures.read.field (zero_field ∷ [])));
      faults = omega (arith, c.in_ok-read_magic.ensures.faults, c.in_ok-version.ensures.faults, c.in_ok-protocol.ensures.read.faults, c.in_ok-registers.ensures.read.faults, c.in_err-count.ensures.read.faults);
    })

pub returns-in_err-read_zero-clause-read : goal.returns-in_err-read_zero-clause-read
returns-in_err-read_zero-clause-read g c =
    let p =
    err_from_is_err_and c.from_residual-in_err-read_zero.result
    c.from_residual-in_err-read_zero.ensures.1 in
    let v = c.in_ok-version.version in
    let n = version_number v in
    let p2 =
    opened_passed c.in_ok-version.version c.in_ok-read_magic.ensures.field.comes
    c.in_ok-version.ensures.field.comes in
    let p3 =
    told_passed v c.in_ok-protocol.protocol c.in_ok-protocol.ensures.has p2
    c.in_ok-protocol.ensures.read.field.comes in
    let p4 =
    passed_all (layout n (protocol_number c.in_ok-protocol.protocol)).registers
    (count_field ∷ zero_field ∷ []) _ p3
    c.in_ok-registers.ensures.read.fields in
    let p5 = passed_field count_field (zero_field ∷ []) _ p4 c.in_ok-count.ensures.read.field in
    rw (p.1, p.2)
    (record {
      ok = tt;
      refused = (passed_refuses p5 _ _ (c.in_err-read_zero.ensures.field []));
      faults = omega (arith, c.in_ok-read_magic.ensures.faults, c.in_ok-version.ensures.faults, c.in_ok-protocol.ensures.read.faults, c.in_ok-registers.ensures.read.faults, c.in_ok-count.ensures.read.faults, c.in_err-read_zero.ensures.faults);
    })

pub returns-clause-read : goal.returns-clause-read
returns-clause-read g c =
    let came =
    comes_more
    (comes_more c.in_ok-read_magic.ensures.field.comes
    c.in_ok-version.ensures.field.comes) c.in_ok-protocol.ensures.read.field.comes in
    let all =
    comes_more
    (comes_more (comes_more came c.in_ok-registers.ensures.read.fields.comes)
    c.in_ok-count.ensures.read.field.comes) c.in_ok-read_zero.ensures.field.comes in
    record {
      ok = comes_as (head_is c.in_ok-version.version c.in_ok-protocol.protocol c.in_ok-registers.registers c.in_ok-count.count) all;
      refused = tt;
      faults = omega (arith, c.in_ok-read_magic.ensures.faults, c.in_ok-version.ensures.faults, c.in_ok-protocol.ensures.read.faults, c.in_ok-registers.ensures.read.faults, c.in_ok-count.ensures.read.faults, c.in_ok-read_zero.ensures.faults);
    }
