use Rattle.std.proofs.Common.{◌≡◌, ◌++◌, ℕ, List, length, get_or, take, map, ap, sym, ◌∙◌}
use Rattle.std.proofs.Common.{arith}
use Rattle.std.proofs.lemmas.List.{take_all}
use Rattle.bl_load.specs.Handover.{Part}
use Rattle.bl_image.specs.ImageHandover.{part_place}
use Rattle.bl_image.proofs.Spelled.{flat_map-take}
use Rattle.bl_digest.specs.internal.Hashing.{HashedFacts, total_of}
use Rattle.bl_digest.proofs.TableLemmas.{bytes_of_parts, parts_within, total_taken, digests_are, handed}
use Rattle.bl_digest.proofs.image_digesting.digest_image.Goals as goal

pub take-requires : goal.take-requires
take-requires g c =
    let parts = c.parts-parts.result.now in
    let within = parts_within parts c.loop-part.part-index c.part-item.result c.loop-part-test.true in
    let mine : length c.bytes.result.now ≡ length (get_or parts c.loop-part.part-index c.part-item.result).bytes =
    ap length c.bytes.ensures ∙ ap (λ (p : Part). length p.bytes) c.part-item.is in
    let taken = ap length c.loop-part.invariant.taken in
    let places : total_of c.loop-part.hasher.places ≡ total_of (map part_place parts) =
    ap total_of
    (c.loop-part.invariant.places ∙ c.in_ok-hasher.ensures.places
    ∙ ap (map part_place) (sym c.parts-parts.ensures.parts)) in
    omega (arith, within, mine, taken, places)

pub loop-part-preserved : goal.loop-part-preserved
loop-part-preserved g c = record {
  front = ap (λ (h : HashedFacts). h.front) c.take.ensures ∙ c.loop-part.invariant.front;
  places = ap (λ (h : HashedFacts). h.places) c.take.ensures ∙ c.loop-part.invariant.places;
  taken =
      ap (λ (h : HashedFacts). h.taken) c.take.ensures
      ∙ ap (λ (l : List ℕ). l ++ c.bytes.result.now) c.loop-part.invariant.taken
      ∙ ap
      (λ (l : List ℕ).
      bytes_of_parts (take c.loop-part.part-index c.parts-parts.result.now) ++ l)
      c.bytes.ensures
      ∙ sym
      (flat_map-take (λ (part : Part). part.bytes) c.parts-parts.result.now
      c.loop-part.part-index c.part-item.result c.part-item.is c.loop-part-test.true);
}

pub end-requires : goal.end-requires
end-requires g c =
    let parts = c.parts-parts.result.now in
    let all : take c.loop-part.part-index parts ≡ parts =
    take_all c.loop-part.part-index parts c.loop-part-test.false in
    ap length (c.loop-part.invariant.taken ∙ ap bytes_of_parts all)
    ∙ total_taken parts
    ∙ ap total_of
    (ap (map part_place) c.parts-parts.ensures.parts
    ∙ sym (c.loop-part.invariant.places ∙ c.in_ok-hasher.ensures.places))

pub returns : goal.returns
returns g c =
    let h = c.args.image.now in
    let parts = c.parts-parts.result.now in
    let all : take c.loop-part.part-index parts ≡ parts =
    take_all c.loop-part.part-index parts c.loop-part-test.false in
    let front_is =
    c.in_ok-hasher.ensures.front h (handed h c.protocol.result c.registers.result c.protocol.ensures c.registers.ensures) in
    c.end.ensures
    ∙ digests_are h c.loop-part.hasher.front c.loop-part.hasher.places c.loop-part.hasher.taken
    (c.loop-part.invariant.front ∙ front_is)
    (c.loop-part.invariant.places ∙ c.in_ok-hasher.ensures.places)
    (c.loop-part.invariant.taken ∙ ap bytes_of_parts (all ∙ c.parts-parts.ensures.parts))
