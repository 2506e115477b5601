use Rattle.std.proofs.Common.{◌+◌, ◌≤◌, arith, ◌∙◌}
use Rattle.std.proofs.lemmas.Result.{err_from_is_err_and}
use Rattle.bl_image.proofs.Ways.{way_as, way_goes_on, way_stops}
use Rattle.bl_image.proofs.Spelled.{range-more}
use Rattle.bl_image.proofs.part_writer.write_part.Goals as goal

pub returns-in_err-count : goal.returns-in_err-count
returns-in_err-count g c =
    let place = c.args.place.now in
    let next = c.min-next.result in
    let within : c.loop-done.done + next ≤ place.length =
    omega (arith, c.min-next.ensures, c.loop-done.invariant.within) in
    let more =
    range-more (g.M.PhysMem.bytes c.args.memory.now) place.address c.loop-done.done next
    place.length within c.requires.inside in
    let p = err_from_is_err_and c.from_residual.result c.from_residual.ensures.1 in
    rw p.1
    (record {
      ok = tt;
      sound = tt;
      begun = way_stops _ (way_as more c.loop-done.invariant.way) c.in_err-count.ensures.begun;
      fault = omega (arith, c.in_err-count.ensures.fault, c.loop-done.invariant.sound);
    })

pub loop-done-preserved : goal.loop-done-preserved
loop-done-preserved g c =
    let place = c.args.place.now in
    let count = c.in_ok-count.count in
    let within : c.loop-done.done + count ≤ place.length =
    omega
    (arith, c.min-next.ensures, c.loop-done.invariant.within, c.in_ok-count.ensures.within) in
    let more =
    range-more (g.M.PhysMem.bytes c.args.memory.now) place.address c.loop-done.done count
    place.length within c.requires.inside in
    record {
      within = within;
      way = way_goes_on _ (way_as more c.loop-done.invariant.way) c.in_ok-count.ensures.ok;
      sound = c.in_ok-count.ensures.sound ∙ c.loop-done.invariant.sound;
    }
