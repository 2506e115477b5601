use Rattle.std.proofs.Common.{◌∙◌, arith}
use Rattle.bl_image.specs.internal.PlaceRecords.{place_bytes}
use Rattle.std.proofs.lemmas.Result.{err_from_is_err_and}
use Rattle.std.proofs.lemmas.List.{at_drop_all}
use Rattle.std.specs.List.{flat_map}
use Rattle.bl_image.proofs.Ways.{way_ends, way_as, way_goes_on, way_stops}
use Rattle.bl_image.proofs.Spelled.{flat_map-drop}
use Rattle.bl_image.proofs.part_writer.write_parts.Goals as goal

pub returns-in_err-write_part : goal.returns-in_err-write_part
returns-in_err-write_part g c =
    let next =
    flat_map-drop (place_bytes (g.M.PhysMem.bytes c.args.memory.now)) c.args.handoff.now.places
    c.loop-i.i c.place-place.result c.place-place.ensures
    (omega (arith, c.loop-i-test.true, c.len-i-end.ensures.len)) in
    let p = err_from_is_err_and c.from_residual.result c.from_residual.ensures.1 in
    rw p.1
    (record {
      ok = tt;
      sound = tt;
      begun = way_stops _ (way_as next c.loop-i.invariant.way) c.in_err-write_part.ensures.begun;
      fault = omega (arith, c.in_err-write_part.ensures.fault, c.loop-i.invariant.sound);
    })

pub loop-i-preserved : goal.loop-i-preserved
loop-i-preserved g c =
    let next =
    flat_map-drop (place_bytes (g.M.PhysMem.bytes c.args.memory.now)) c.args.handoff.now.places
    c.loop-i.i c.place-place.result c.place-place.ensures
    (omega (arith, c.loop-i-test.true, c.len-i-end.ensures.len)) in
    record {
      way = way_goes_on _ (way_as next c.loop-i.invariant.way) c.in_ok-write_part.ensures.ok;
      sound = c.in_ok-write_part.ensures.sound ∙ c.loop-i.invariant.sound;
    }

pub returns : goal.returns
returns g c =
    let none =
    at_drop_all (flat_map (place_bytes (g.M.PhysMem.bytes c.args.memory.now)))
    c.args.handoff.now.places c.loop-i.i
    (omega (arith, c.loop-i-test.false, c.len-i-end.ensures.len)) in
    record {
      ok = way_ends (way_as none c.loop-i.invariant.way);
      sound = c.loop-i.invariant.sound;
      begun = tt;
      fault = tt;
    }
