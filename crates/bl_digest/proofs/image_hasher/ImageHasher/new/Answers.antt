use Rattle.std.proofs.Common.{ap, arith, rules}
use Rattle.bl_digest.specs.internal.Hashing.{PartsFacts, total_of}
use Rattle.bl_digest.proofs.HashingLemmas.{total_within}
use Rattle.bl_digest.proofs.image_hasher.ImageHasher.new.Goals as goal

pub new-requires-clause-short : goal.new-requires-clause-short
new-requires-clause-short g c =
    let places = g.P.Places.places c.args.places.now in
    omega (arith, total_within places c.requires.ascending c.requires.below)

pub overflow_add-result : goal.overflow_add-result
overflow_add-result g c =
    let places = g.P.Places.places c.args.places.now in
    let total = total_within places c.requires.ascending c.requires.below in
    let same = ap (λ (f : PartsFacts). total_of f.places) c.in_ok-parts.ensures in
    omega (arith, total, same, c.room.ensures, c.front_bytes-count.ensures.within)

pub invariant_of-result : goal.invariant_of-result
invariant_of-result g c = search rules
