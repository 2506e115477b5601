use Rattle.std.proofs.Common.{◌∙◌, arith}
use Rattle.bl_load.specs.Handover.{Part}
use Rattle.std.proofs.lemmas.Result.{err_from_is_err_and}
use Rattle.std.proofs.lemmas.List.{at_drop_all}
use Rattle.bl_image.proofs.Ways.{way_goes_on, way_ends, way_as, way_stops}
use Rattle.bl_image.proofs.Spelled.{flat_map-drop}
use Rattle.bl_image.proofs.PartLemmas.{all_bytes}
use Rattle.bl_image.proofs.value_writing.write_bytes.Goals as goal

pub returns-in_err-write_all : goal.returns-in_err-write_all
returns-in_err-write_all g c =
    let next =
    flat_map-drop (λ (p : Part). p.bytes) c.args.parts.now c.loop-part.part-index
    c.part-item.result c.part-item.is (omega (arith, c.loop-part-test.true)) in
    let p = err_from_is_err_and c.from_residual.result c.from_residual.ensures.1 in
    rw p.1
    (record {
      ok = tt;
      sound = tt;
      begun = way_stops _ (way_as next c.loop-part.invariant.way) (rw c.bytes.ensures at c.in_err-write_all.ensures.begun);
      fault = omega (arith, c.in_err-write_all.ensures.fault, c.loop-part.invariant.sound);
    })

pub loop-part-preserved : goal.loop-part-preserved
loop-part-preserved g c =
    let next =
    flat_map-drop (λ (p : Part). p.bytes) c.args.parts.now c.loop-part.part-index
    c.part-item.result c.part-item.is (omega (arith, c.loop-part-test.true)) in
    record {
      way =
          way_goes_on
          _ (way_as next c.loop-part.invariant.way) (rw c.bytes.ensures at c.in_ok-write_all.ensures.ok);
      sound = c.in_ok-write_all.ensures.sound ∙ c.loop-part.invariant.sound;
    }

pub returns : goal.returns
returns g c =
    let none = at_drop_all all_bytes c.args.parts.now c.loop-part.part-index c.loop-part-test.false in
    record {
      ok = way_ends (way_as none c.loop-part.invariant.way);
      sound = c.loop-part.invariant.sound;
      begun = tt;
      fault = tt;
    }
