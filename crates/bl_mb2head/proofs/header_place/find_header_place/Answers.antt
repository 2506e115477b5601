use Rattle.std.proofs.Common.{arith}
use Rattle.bl_mb2head.proofs.PlaceLemmas.{none_before_next}
use Rattle.bl_mb2head.proofs.header_place.find_header_place.Goals as goal

pub returns-then-is_header_at : goal.returns-then-is_header_at
returns-then-is_header_at g c =
    record {
      holds = c.is_header_at.ensures.0 c.if-is_header_at.true;
      least = c.loop-at.invariant.none;
    }

pub loop-at-preserved : goal.loop-at-preserved
loop-at-preserved g c =
    let so_far = c.loop-at.invariant in
    record {
      aligned = omega arith;
      none =
          none_before_next _ c.loop-at.at so_far.aligned
          (λ here. let yes = c.is_header_at.ensures.1 here in cc) so_far.none;
      end_in = so_far.end_in;
      end_all = so_far.end_all;
      end_front = so_far.end_front;
      in_front = omega arith;
    }

pub returns : goal.returns
returns g c =
    λ h here. omega (arith, c.loop-at.invariant.none h here, c.loop-at.invariant.end_all h here)
