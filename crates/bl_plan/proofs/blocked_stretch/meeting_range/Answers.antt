use Rattle.std.proofs.Common.{ℕ, sym, take, arith}
use Rattle.std.proofs.lemmas.List.{take_all}
use Rattle.std.proofs.lemmas.List.Elements.{All-more, All-same}
use Rattle.std.specs.declared.ops.Range.{Range}
use Rattle.bl_mem.specs.Memory.{IsIn}
use Rattle.bl_plan.proofs.blocked_stretch.meeting_range.Goals.{else-range-via-then-range+then-range-end+else-start-range}
use Rattle.bl_plan.proofs.blocked_stretch.meeting_range.Goals.{else-range-via-then-range+else-range-end}
use Rattle.bl_plan.proofs.blocked_stretch.meeting_range.Goals.{else-range-via-else-range}
use Rattle.bl_plan.proofs.blocked_stretch.meeting_range.Goals as goal

pub loop-range-preserved : goal.loop-range-preserved
loop-range-preserved c = λ a from below.
    let none : Range ℕ = record { start = 0; end = 0 } in
    All-more (λ range. ¬ IsIn range a) c.args.ranges.now c.loop-range.range-index none
    c.loop-range-test.true (c.loop-range.invariant a from below)
    (λ within. elim c.else-range.branch [
      | else-range-via-then-range+then-range-end+else-start-range w ↦ omega (arith, within.0, within.1)
      | else-range-via-then-range+else-range-end w ↦ omega (arith, within.0, within.1)
      | else-range-via-else-range w ↦ omega (arith, within.0, within.1)
    ])

pub returns : goal.returns
returns c = λ a from below.
    let all = take_all c.loop-range.range-index c.args.ranges.now c.loop-range-test.false in
    All-same (λ range. ¬ IsIn range a) c.args.ranges.now
    (take c.loop-range.range-index c.args.ranges.now) (sym all) (c.loop-range.invariant a from below)
