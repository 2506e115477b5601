use Rattle.std.proofs.Common.{◌≡◌, subst}
use Rattle.bl_digest.specs.internal.Hashing.{PartsFacts, part_digests}
use Rattle.bl_digest.proofs.HashingLemmas.{all_begun}
use Rattle.bl_digest.proofs.parts_hasher.PartsHasher.end.Goals as goal

pub returns : goal.returns
returns g c =
    let i = c.self.inside in
    subst (λ (f : PartsFacts). i.rows.items ≡ part_digests f.places f.taken) c.self.view_is
    (all_begun i.rows.items i.index i.part i.left i.room i.taken.bytes c.self.invariant
    (rw (← c.self.view_is) at c.requires))
