use Rattle.std.proofs.Common.{◌≡◌, ◌<◌, List, length, take, map, ap, ◌∙◌, arith}
use Rattle.std.proofs.lemmas.List.{take_all}
use Rattle.bl_plan.specs.declared.part.Place.{Place}
use Rattle.bl_digest.specs.internal.Hashing.{told_place, total_of, first_length}
use Rattle.bl_digest.proofs.HashingLemmas.{same_facts, total_upto, total_more, rows_more}
use Rattle.bl_digest.proofs.HashingLemmas.{begun_first}
use Rattle.bl_digest.proofs.parts_hasher.PartsHasher.new.Goals as goal

pub overflow_add-room : goal.overflow_add-room
overflow_add-room g c =
    let places = g.P.Places.places c.args.places.now in
    let inside : c.loop-i.i < length places = omega (arith, c.loop-i-test.true, c.count-i-end.ensures) in
    let upto = total_upto places c.loop-i.i c.place_at-place.result inside in
    let same = ap (λ (p : Place). p.length) c.place_at-place.ensures in
    omega (arith, upto, same, c.loop-i.invariant.room, c.requires.short)

pub loop-i-preserved : goal.loop-i-preserved
loop-i-preserved g c =
    let places = g.P.Places.places c.args.places.now in
    let inside : c.loop-i.i < length places = omega (arith, c.loop-i-test.true, c.count-i-end.ensures) in
    let more = total_more places c.loop-i.i c.place_at-place.result inside in
    let same = ap (λ (p : Place). p.length) c.place_at-place.ensures in
    record {
      rows =
          rows_more places c.loop-i.rows.items c.push.new.self.items c.loop-i.i _
          c.loop-i.invariant.rows c.in_ok-push.ensures.items c.place_at-place.ensures inside;
      room = omega (arith, more, same, c.loop-i.invariant.room);
    }

pub invariant_of-result : goal.invariant_of-result
invariant_of-result g c =
    let places = g.P.Places.places c.args.places.now in
    let all : take c.loop-i.i places ≡ places =
    take_all c.loop-i.i places (omega (arith, c.loop-i-test.false, c.count-i-end.ensures)) in
    begun_first c.loop-i.rows.items places c.new.result c.empty.result.bytes
    c.length_at-left.result c.loop-i.room (c.loop-i.invariant.rows ∙ all) c.new.ensures
    c.empty.ensures
    (c.length_at-left.ensures
    ∙ ap (λ (l : List _). first_length (map told_place l)) c.as_slice.ensures.value)
    (c.loop-i.invariant.room ∙ ap total_of all) c.requires.filled

pub returns : goal.returns
returns g c =
    let places = g.P.Places.places c.args.places.now in
    let all : take c.loop-i.i places ≡ places =
    take_all c.loop-i.i places (omega (arith, c.loop-i-test.false, c.count-i-end.ensures)) in
    same_facts _ _ _ _ (c.loop-i.invariant.rows ∙ all) c.empty.ensures
