use Rattle.std.proofs.Common.{◌<◌, ◌≡◌, ◌+◌, ◌-◌, ◌++◌, ℕ, List, length, take, drop, map, ap, ◌∙◌}
use Rattle.std.proofs.Common.{refl, arith, length-take}
use Rattle.std.proofs.Math.Seq.{map-set_same}
use Rattle.sha2.specs.Sha256.{sha256}
use Rattle.bl_digest.specs.declared.part_digest.PartDigest.{PartDigest}
use Rattle.bl_digest.specs.internal.Hashing.{PartsFacts, told_place, first_length}
use Rattle.bl_digest.proofs.HashingLemmas.{has_row, begun_more, part_ended_as, has_left, same_facts}
use Rattle.bl_digest.proofs.parts_hasher.PartsHasher.take_some.Goals as goal

pub invariant_of-self : goal.invariant_of-self
invariant_of-self g c =
    let i = c.self.inside in
    let is = c.self.invariant in
    let piece : List ℕ = take c.min-count.result c.args.bytes.now in
    let room = rw (← c.self.view_is) at c.requires.room in
    let some = has_left i.rows.items i.index i.part i.left i.room i.taken.bytes is (omega (arith, is.count, room, c.requires.some)) in
    let whole : length piece ≡ i.left =
    length-take c.min-count.result c.args.bytes.now
    ∙ omega (arith, c.min-count.ensures, c.if-self-eq0.true) in
    part_ended_as i.rows.items _ i.index i.part c.end_and_begin.new.self i.left
    c.length_at-self-inside.result i.room (i.room - c.min-count.result) i.taken.bytes
    c.with_part-self-inside.result.bytes piece _ c.index_mut.result.now is some whole refl
    (ap (λ (r : PartDigest). r.place) c.index_mut.ensures.value)
    (c.end_and_begin.ensures.digest ∙ ap sha256 c.give.ensures)
    c.end_and_begin.ensures.empty
    (c.length_at-self-inside.ensures
    ∙ ap (λ (l : List PartDigest). first_length (drop (i.index + 1) (map told_place l)))
    c.as_slice.ensures.value)
    (omega (arith, c.min-count.ensures, c.if-self-eq0.true)) c.with_part-self-inside.ensures

pub returns-then-self-eq0-clause-taken : goal.returns-then-self-eq0-clause-taken
returns-then-self-eq0-clause-taken g c =
    let i = c.self.inside in
    same_facts _ _ _ _
    (map-set_same told_place i.rows.items i.index _ c.index_mut.result.now
    (ap (λ (r : PartDigest). r.place) c.index_mut.ensures.value)
    ∙ ap (λ (f : PartsFacts). f.places) c.self.view_is)
    (c.with_part-self-inside.ensures
    ∙ ap (λ (f : PartsFacts). f.taken ++ take c.min-count.result c.args.bytes.now) c.self.view_is)

pub index_mut-requires : goal.index_mut-requires
index_mut-requires g c =
    let i = c.self.inside in
    let is = c.self.invariant in
    let room = rw (← c.self.view_is) at c.requires.room in
    let some = has_left i.rows.items i.index i.part i.left i.room i.taken.bytes is (omega (arith, is.count, room, c.requires.some)) in
    omega (arith, has_row i.rows.items i.index i.part i.left i.room i.taken.bytes is some, i.rows.ok.0)

pub overflow_add-self : goal.overflow_add-self
overflow_add-self g c =
    let i = c.self.inside in
    let is = c.self.invariant in
    let room = rw (← c.self.view_is) at c.requires.room in
    let some = has_left i.rows.items i.index i.part i.left i.room i.taken.bytes is (omega (arith, is.count, room, c.requires.some)) in
    omega (arith, has_row i.rows.items i.index i.part i.left i.room i.taken.bytes is some, i.rows.ok.0)

pub invariant_of-self-else-self-eq0 : goal.invariant_of-self-else-self-eq0
invariant_of-self-else-self-eq0 g c =
    let i = c.self.inside in
    let is = c.self.invariant in
    let count = c.min-count.result in
    let piece : List ℕ = take count c.args.bytes.now in
    let size : length piece ≡ count =
    length-take count c.args.bytes.now ∙ omega (arith, c.min-count.ensures) in
    let short : length piece < i.left =
    omega (arith, size, c.min-count.ensures, c.if-self-eq0.false) in
    let more =
    rw size at
    (begun_more i.rows.items i.index i.part i.left i.room i.taken.bytes is piece short) in
    rw (c.give.ensures, c.with_part-self-inside.ensures) more
