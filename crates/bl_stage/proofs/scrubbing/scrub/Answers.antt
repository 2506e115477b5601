use Rattle.std.proofs.Common.{◌≤◌, length, get_or, arith, ap, ◌∙◌}
use Rattle.bl_stage.specs.Staged.{HasPool}
use Rattle.bl_stage.proofs.ScrubLemmas.{rest_zeroed, done_zeroed}
use Rattle.bl_stage.proofs.scrubbing.scrub.Goals as goal

pub loop-at-preserved-then-not-is_kept : goal.loop-at-preserved-then-not-is_kept
loop-at-preserved-then-not-is_kept g c =
    let loop = c.loop-at.invariant in
    let edge = c.next_edge-edge in
    let bytes = g.M.PhysMem.bytes c.loop-at.memory in
    let old = g.M.PhysMem.bytes c.args.memory.now in
    let at = c.loop-at.at in
    let pool = c.pool-pool.result in
    let inside : HasPool old pool = rw c.pool-pool.ensures.pool c.requires.inside in
    let forward : at ≤ edge.result = omega (arith, edge.ensures.above) in
    let within : edge.result ≤ length bytes =
    omega (arith, loop.kept.size, edge.ensures.within, inside (omega arith)) in
    let is = c.zero.ensures.after in
    record {
      low = omega (arith, loop.low);
      high = λ h. edge.ensures.within;
      done =
          λ a h. ap (λ b. get_or b a 0) is
          ∙ done_zeroed pool c.args.keep.now old bytes at edge.result forward within loop.low
          edge.ensures.within c.if-not-is_kept.ensures edge.ensures.same loop.done a h;
      rest =
          λ a h. ap (λ b. get_or b a 0) is
          ∙ rest_zeroed pool c.args.keep.now old bytes at edge.result forward within a h
          ∙ loop.rest a (omega arith);
      kept = record {
        lender = c.zero.ensures.kept.lender ∙ loop.kept.lender;
        size = c.zero.ensures.kept.size ∙ loop.kept.size;
        room = λ a h. c.zero.ensures.kept.room a (loop.kept.room a h);
      };
    }
