use Rattle.std.proofs.Common.{◌≡◌, ◌+◌, ◌*◌, ◌≤◌, ◌<◌, ◌^◌, length, take, sym, arith}
use Rattle.std.proofs.lemmas.List.{length-take-le}
use Rattle.std.proofs.lemmas.Result.{err_from_is_err_and}
use Rattle.std.specs.List.{flat_map}
use Rattle.bl_mem.specs.LittleEndian.{u32_bytes}
use Rattle.bl_image.proofs.Inputs.{comes_more, comes_as}
use Rattle.bl_image.proofs.NumberLemmas.{length-u32s}
use Rattle.bl_image.proofs.Listed.{spelled_more, fit_more}
use Rattle.bl_image.proofs.FieldLemmas.{cut_behind}
use Rattle.bl_image.proofs.field_reader.read_u32s.Goals as goal

pub returns-in_err-out-clause-read : goal.returns-in_err-out-clause-read
returns-in_err-out-clause-read g c =
    let p = err_from_is_err_and c.from_residual.result c.from_residual.ensures.1 in
    let out = c.loop-i.out in
    let i = c.loop-i.i in
    let inside : i < length out = omega arith in
    let taken : length (take i out) ≡ i = length-take-le i out (omega arith) in
    let size : length (flat_map u32_bytes (take i out)) ≡ 4 * length (take i out) =
    length-u32s (take i out) in
    let few : length (flat_map u32_bytes (take i out)) + 4 ≤ 4 * length out = omega arith in
    rw (p.1, p.2)
    (record {
      ok = tt;
      cut = (cut_behind 4 (4 * length out) c.loop-i.invariant.came few _ _ c.in_err-out.ensures.read.cut);
      faults = omega (arith, c.in_err-out.ensures.read.faults, c.loop-i.invariant.sound);
    })

pub loop-i-preserved : goal.loop-i-preserved
loop-i-preserved g c =
    let out = c.loop-i.out in
    let i = c.loop-i.i in
    let v = c.in_ok-out.field-0 in
    let inside : i < length out = omega arith in
    record {
      came =
          comes_as (sym (spelled_more u32_bytes out i v inside))
          (comes_more c.loop-i.invariant.came c.in_ok-out.ensures.read.ok);
      fit = fit_more (2 ^ 32) out i v inside c.loop-i.invariant.fit c.in_ok-out.ensures.fits;
      sound = omega (arith, c.in_ok-out.ensures.read.faults, c.loop-i.invariant.sound);
    }
