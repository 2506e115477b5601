use Rattle.std.proofs.Common.{ℕ, sym, take}
use Rattle.std.proofs.lemmas.List.{take_all}
use Rattle.std.proofs.lemmas.List.Elements.{All-more, All-same}
use Rattle.std.specs.declared.ops.Range.{Range}
use Rattle.bl_map.specs.MachineFacts.{IsAvoidable}
use Rattle.bl_map.proofs.firmware.checks.first_unavoidable.Goals as goal

pub loop-i-preserved : goal.loop-i-preserved
loop-i-preserved c =
    let none : Range ℕ = record { start = 0; end = 0 } in
    All-more IsAvoidable c.args.avoided.now c.loop-i.i none c.loop-i-test.true c.loop-i.invariant
    c.if-not-is_avoidable.ensures

pub returns : goal.returns
returns c =
    let all = take_all c.loop-i.i c.args.avoided.now c.loop-i-test.false in
    All-same IsAvoidable c.args.avoided.now (take c.loop-i.i c.args.avoided.now) (sym all)
    c.loop-i.invariant
