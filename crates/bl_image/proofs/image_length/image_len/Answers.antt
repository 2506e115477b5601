use Rattle.std.proofs.Common.{◌<◌, ◌≤◌, length, arith, ap, ◌∙◌}
use Rattle.std.proofs.lemmas.List.{take_all}
use Rattle.bl_image.specs.ImageLength.{image_length}
use Rattle.bl_image.proofs.LengthLemmas.{one_more, short_at, image_size}
use Rattle.bl_image.proofs.image_length.image_len.Goals as goal

pub loop-i-preserved : goal.loop-i-preserved
loop-i-preserved g c =
    let places = c.args.handoff.now.places in
    let i = c.loop-i.i in
    let place = c.place.result in
    let inside : i < length places = omega (arith, c.loop-i-test.true, c.len-i-end.ensures.len) in
    let more = one_more places i place c.place.ensures inside in
    let short = short_at places c.len-i-end.ensures.kept.below i place c.place.ensures inside in
    record {
      sum = omega (arith, more, c.loop-i.invariant.sum);
      low = omega (arith, short, c.loop-i.invariant.low);
    }

pub returns-clause-exact : goal.returns-clause-exact
returns-clause-exact g c = λ bytes inside.
    let h = c.args.handoff.now in
    let all : length h.places ≤ c.loop-i.i = omega (arith, c.len-i-end.ensures.len) in
    c.loop-i.invariant.sum
    ∙ ap image_length (take_all c.loop-i.i h.places all)
    ∙ image_size bytes h.protocol h.registers h.places inside
