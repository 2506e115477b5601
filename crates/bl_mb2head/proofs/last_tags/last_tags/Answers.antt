use Rattle.std.proofs.Common.{arith, ◌++◌, ◌∷◌, []}
use Rattle.bl_mb2head.proofs.TagLemmas.{AreTags-push}
use Rattle.bl_mb2head.proofs.last_tags.last_tags.Goals as goal

pub loop-tag-preserved : goal.loop-tag-preserved
loop-tag-preserved g c =
    let before = c.loop-tag.invariant.before in
    let tag = c.in_ok-tag.tag in
    let is = c.in_ok-tag.ensures.exact in
    record {
      in_reach = omega (
        arith,
        c.next_tag_place-at.ensures,
        c.in_ok-tag.ensures.fits.0,
        c.in_ok-tag.ensures.fits.1,
        c.in_ok-tag.ensures.fits.3,
      );
      fits =
          c.with-last.ensures.fits c.args.end c.loop-tag.invariant.fits c.in_ok-tag.ensures.fits.2
          (omega (arith, c.in_ok-tag.ensures.fits.0, c.in_ok-tag.ensures.fits.3));
      before = (
        before.0 ++ tag ∷ [],
        rw c.next_tag_place-at.ensures
            (AreTags-push _ _ _ _ _ before.0 tag before.1 is.0 is.1 c.if-tag-eq-TAG_END.false),
        c.with-last.ensures.last before.0 before.2,
      );
    }
