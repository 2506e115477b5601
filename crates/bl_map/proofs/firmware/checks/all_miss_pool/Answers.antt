use Rattle.std.proofs.Common.{ℕ, sym, take}
use Rattle.std.proofs.lemmas.List.{take_all}
use Rattle.std.proofs.lemmas.List.Elements.{All-more, All-same}
use Rattle.std.specs.declared.ops.Range.{Range}
use Rattle.bl_map.specs.MachineFacts.{MissesPool}
use Rattle.bl_map.proofs.firmware.checks.all_miss_pool.Goals as goal

pub loop-range-preserved : goal.loop-range-preserved
loop-range-preserved c =
    let none : Range ℕ = record { start = 0; end = 0 } in
    All-more (MissesPool c.args.pool.now) c.args.avoided.now c.loop-range.range-index none
    c.loop-range-test.true c.loop-range.invariant c.if-not-misses_pool.ensures

pub returns : goal.returns
returns c =
    let all = take_all c.loop-range.range-index c.args.avoided.now c.loop-range-test.false in
    All-same (MissesPool c.args.pool.now) c.args.avoided.now
    (take c.loop-range.range-index c.args.avoided.now) (sym all) c.loop-range.invariant
