use Rattle.std.proofs.Common.{◌<◌, ◌^◌, ◌∷◌, [], length, refl, arith}
use Rattle.std.specs.Prelude.{replicate}
use Rattle.std.proofs.lemmas.Result.{err_from_is_err_and}
use Rattle.bl_mem.specs.LittleEndian.{u64_bytes}
use Rattle.bl_image.specs.Fields.{zero_extended_field}
use Rattle.bl_image.proofs.Listed.{spelled_more, fit_more}
use Rattle.bl_image.proofs.FieldRows.{pass_none, pass_both, pass_one, refused_among, replicate_more}
use Rattle.bl_image.proofs.register_reader.read_narrows.Goals as goal

pub loop-i-init : goal.loop-i-init
loop-i-init g c =
    record { passed = pass_none _; fit = λ k d within. absurd (omega arith); sound = refl }

pub returns-in_err-out-clause-read : goal.returns-in_err-out-clause-read
returns-in_err-out-clause-read g c =
    let p = err_from_is_err_and c.from_residual.result c.from_residual.ensures.1 in
    let inside : c.loop-i.i < length c.loop-i.out = omega arith in
    rw (p.1, p.2)
    (record {
      fields = (refused_among zero_extended_field c.loop-i.i (length c.loop-i.out) _ inside c.loop-i.invariant.passed _ _ c.in_err-out.ensures.read.field);
      faults = omega (arith, c.in_err-out.ensures.read.faults, c.loop-i.invariant.sound);
    })

pub loop-i-preserved : goal.loop-i-preserved
loop-i-preserved g c =
    let out = c.loop-i.out in
    let i = c.loop-i.i in
    let v = c.in_ok-out.field-0 in
    let inside : i < length out = omega arith in
    let both =
    pass_both (replicate i zero_extended_field) (zero_extended_field ∷ []) _ (u64_bytes v)
    c.loop-i.invariant.passed (pass_one zero_extended_field (u64_bytes v) c.in_ok-out.ensures.read.field) in
    record {
      passed =
          rw (replicate_more i zero_extended_field, spelled_more u64_bytes out i v inside) both;
      fit = fit_more (2 ^ 32) out i v inside c.loop-i.invariant.fit c.in_ok-out.ensures.fits;
      sound = omega (arith, c.in_ok-out.ensures.read.faults, c.loop-i.invariant.sound);
    }
