use Rattle.std.proofs.Common.{AllPairs, sym, subst}
use Rattle.bl_load.proofs.HeldLemmas.{pairs_under}
use Rattle.bl_load.specs.HandoffFacts.{Ascends}
use Rattle.bl_image.specs.ImageHandover.{part_place, PartAscends}
use Rattle.bl_image.proofs.image.Image.parts.Goals as goal

pub returns-clause-ascending : goal.returns-clause-ascending
returns-clause-ascending g c =
    subst (AllPairs PartAscends) (sym c.as_slice.ensures.value)
    (pairs_under Ascends part_place c.self.inside.parts.items c.self.invariant.ascending)
