use Rattle.bl_walk.proofs.InsideLemmas.{no_part_with, this_part_with, no_other_part_with}
use Rattle.bl_walk.proofs.part_bytes.part_with.Goals as goal

pub returns-then-count_begun-eq0-clause-exact : goal.returns-then-count_begun-eq0-clause-exact
returns-then-count_begun-eq0-clause-exact g c =
    no_part_with c.args.image.now.parts c.parts-parts.result.now c.args.address c.args.count
    c.count_upto-count_begun.result
    c.parts-parts.ensures.parts c.count_upto-count_begun.ensures.split c.if-count_begun-eq0.true

pub returns-then-is_within-clause-exact : goal.returns-then-is_within-clause-exact
returns-then-is_within-clause-exact g c =
    this_part_with c.args.image.now.parts c.parts-parts.result.now c.args.address c.args.count
    c.count_upto-count_begun.result
    c.parts-parts.ensures.parts c.index-parts-count_begun.result c.parts-parts.ensures.ascending
    c.requires
    c.count_upto-count_begun.ensures.split c.if-count_begun-eq0.false
    c.count_upto-count_begun.ensures.within
    c.index-parts-count_begun.is c.if-is_within.ensures

pub returns-else-is_within-clause-exact : goal.returns-else-is_within-clause-exact
returns-else-is_within-clause-exact g c =
    no_other_part_with c.args.image.now.parts c.parts-parts.result.now c.args.address c.args.count
    c.count_upto-count_begun.result
    c.parts-parts.ensures.parts c.index-parts-count_begun.result c.parts-parts.ensures.ascending
    c.requires
    c.count_upto-count_begun.ensures.split c.if-count_begun-eq0.false
    c.count_upto-count_begun.ensures.within
    c.index-parts-count_begun.is c.if-is_within.ensures
