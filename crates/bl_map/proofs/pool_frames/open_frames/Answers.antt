use Rattle.std.proofs.Common.{arith}
use Rattle.bl_map.proofs.RoomLemmas.{counted, behind_next, counted_all}
use Rattle.bl_map.proofs.pool_frames.open_frames.Goals as goal

pub loop-range-preserved : goal.loop-range-preserved
loop-range-preserved c =
    let ascend = c.requires.ascending in
    let here = c.loop-range-test.true in
    let kept = c.loop-range.invariant in
    let met = c.frames_met-met.ensures in
    record {
      within = omega (arith, met.within);
      most = omega (arith, met.forward);
      counted =
          counted c.args.pool.now c.args.ranges.now ascend c.loop-range.range-index here
          c.loop-range.next kept.behind _ _ met _ _ _ kept.within kept.counted (omega arith)
          (omega arith);
      behind =
          behind_next c.args.pool.now c.args.ranges.now ascend c.loop-range.range-index here
          c.loop-range.next kept.behind _ _ met _ (omega arith);
    }

pub returns : goal.returns
returns c =
    let kept = c.loop-range.invariant in
    let all =
    counted_all c.args.pool.now c.args.ranges.now c.loop-range.range-index c.loop-range.next
    c.loop-range-test.false kept.behind kept.within in
    omega (arith, all)
