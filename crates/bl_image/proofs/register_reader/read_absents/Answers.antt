use Rattle.std.proofs.Common.{◌<◌, ◌∷◌, [], refl, arith}
use Rattle.std.specs.Prelude.{replicate}
use Rattle.std.proofs.lemmas.Result.{err_from_is_err_and}
use Rattle.bl_mem.specs.LittleEndian.{u64_bytes}
use Rattle.bl_image.specs.Fields.{absent_field}
use Rattle.bl_image.proofs.FieldRows.{pass_none, pass_both, pass_one, refused_among, replicate_more}
use Rattle.bl_image.proofs.WideLemmas.{zeros_more}
use Rattle.bl_image.proofs.register_reader.read_absents.Goals as goal

pub loop-i-init : goal.loop-i-init
loop-i-init g c = record { passed = pass_none _; sound = refl }

pub returns-in_err-read_absent : goal.returns-in_err-read_absent
returns-in_err-read_absent g c =
    let p = err_from_is_err_and c.from_residual.result c.from_residual.ensures.1 in
    let inside : c.loop-i._i < c.args.count = omega arith in
    rw (p.1, p.2)
    (record {
      fields = (refused_among absent_field c.loop-i._i c.args.count _ inside c.loop-i.invariant.passed _ _ c.in_err-read_absent.ensures.field);
      faults = omega (arith, c.in_err-read_absent.ensures.faults, c.loop-i.invariant.sound);
    })

pub loop-i-preserved : goal.loop-i-preserved
loop-i-preserved g c =
    let i = c.loop-i._i in
    let both =
    pass_both (replicate i absent_field) (absent_field ∷ []) _ (u64_bytes 0)
    c.loop-i.invariant.passed
    (pass_one absent_field (u64_bytes 0) c.in_ok-read_absent.ensures.field) in
    record {
      passed = rw (replicate_more i absent_field, zeros_more i) both;
      sound = omega (arith, c.in_ok-read_absent.ensures.faults, c.loop-i.invariant.sound);
    }
