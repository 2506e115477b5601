use Rattle.std.proofs.Common.{length, sym, ap, arith, length-append}
use Rattle.std.proofs.lemmas.Result.{err_from_is_err_and}
use Rattle.bl_image.proofs.Inputs.{comes_more, comes_as}
use Rattle.bl_image.proofs.FieldLemmas.{cut_behind}
use Rattle.bl_image.proofs.part_reader.read_bytes.Goals as goal

pub returns-in_err-read_piece-clause-read : goal.returns-in_err-read_piece-clause-read
returns-in_err-read_piece-clause-read g c =
    let p = err_from_is_err_and c.from_residual.result c.from_residual.ensures.1 in
    let before = c.loop-done.invariant in
    rw (p.1, p.2)
    (record {
      ok = tt;
      cut = (cut_behind c.next_read-next.result c.args.count before.came (omega arith) _ _ c.in_err-read_piece.ensures.cut);
      faults = omega (arith, c.in_err-read_piece.ensures.faults, before.faults);
    })

pub loop-done-preserved : goal.loop-done-preserved
loop-done-preserved g c =
    let before = c.loop-done.invariant in
    let read = c.in_ok-read_piece.ensures.ok in
    record {
      within = omega arith;
      size =
          omega (
            arith,
            ap length read.behind,
            length-append c.loop-done.bytes.items read.came,
            read.size,
            before.size,
          );
      came = comes_as (sym read.behind) (comes_more before.came read.comes);
      faults = omega (arith, c.in_ok-read_piece.ensures.faults, before.faults);
    }
