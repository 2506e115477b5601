use Rattle.std.proofs.Common.{◌≡◌, ◌<◌, [], ◌∷◌, ◌++◌, length, map, sym, ap, ◌∙◌, arith}
use Rattle.std.proofs.lemmas.Result.{err_from_is_err_and}
use Rattle.std.proofs.lemmas.List.{take_all}
use Rattle.bl_image.specs.ImageHandover.{part_place}
use Rattle.bl_image.proofs.Inputs.{comes_more, comes_as}
use Rattle.bl_image.proofs.PartLemmas.{all_bytes, part_cut, places_more, bytes_more}
use Rattle.bl_image.proofs.part_reader.read_parts.Goals as goal

pub returns-in_err-part-clause-read : goal.returns-in_err-part-clause-read
returns-in_err-part-clause-read g c =
    let p = err_from_is_err_and c.from_residual.result c.from_residual.ensures.1 in
    let inside : c.loop-i.i < length c.args.places.now = omega arith in
    rw (p.1, p.2)
    (record {
      ok = tt;
      cut = (part_cut c.args.places.now c.loop-i.parts.items c.loop-i.i _ c.loop-i.invariant.are inside c.loop-i.invariant.came _ _ c.in_err-part.ensures.read.cut);
      faults = omega (arith, c.in_err-part.ensures.read.faults, c.loop-i.invariant.faults);
    })

pub loop-i-preserved : goal.loop-i-preserved
loop-i-preserved g c =
    let old = c.loop-i.parts.items in
    let part = c.in_ok-part.part in
    let inside : c.loop-i.i < length c.args.places.now = omega arith in
    let e : c.push.new.self.items ≡ old ++ part ∷ [] = c.in_ok-push.ensures.items in
    record {
      came =
          comes_as (sym (ap all_bytes e ∙ bytes_more old part))
          (comes_more c.loop-i.invariant.came c.in_ok-part.ensures.read.ok);
      are =
          ap (map part_place) e
          ∙ places_more c.args.places.now old c.loop-i.i _ part c.loop-i.invariant.are
          inside c.in_ok-part.ensures.place;
      faults = omega (arith, c.in_ok-part.ensures.read.faults, c.loop-i.invariant.faults);
    }

pub read_part-requires-clause-few : goal.read_part-requires-clause-few
read_part-requires-clause-few g c = c.requires.few c.loop-i.i _ (omega arith)

pub returns-in_err-part-clause-places : goal.returns-in_err-part-clause-places
returns-in_err-part-clause-places g c =
    let p = err_from_is_err_and c.from_residual.result c.from_residual.ensures.1 in
    rw p.1 tt

pub returns-in_err-push-clause-read : goal.returns-in_err-push-clause-read
returns-in_err-push-clause-read g c =
    let p =
    err_from_is_err_and c.from_residual-in_err-push.result
    c.from_residual-in_err-push.ensures.1 in
    rw (p.1, p.2)
    (record {
      ok = tt;
      cut = tt;
      faults = omega (arith, c.in_ok-part.ensures.read.faults, c.loop-i.invariant.faults);
    })

pub returns-clause-places : goal.returns-clause-places
returns-clause-places g c =
    c.loop-i.invariant.are ∙ take_all c.loop-i.i c.args.places.now (omega arith)
