use Rattle.std.proofs.Common.{ℕ, sym, take, arith}
use Rattle.std.proofs.lemmas.List.{take_all}
use Rattle.std.proofs.lemmas.List.Elements.{All-more, All-same}
use Rattle.std.specs.declared.ops.Range.{Range}
use Rattle.bl_mem.specs.Memory.{IsIn}
use Rattle.bl_plan.proofs.unusable_byte.first_in.Goals.{then-at-range+then-at-first, else-at-range}
use Rattle.bl_plan.proofs.unusable_byte.first_in.Goals.{else-at-range-via-then-at-range+else-at-first}
use Rattle.bl_plan.proofs.unusable_byte.first_in.Goals.{else-at-range-via-else-at-range}
use Rattle.bl_plan.proofs.unusable_byte.first_in.Goals as goal

pub loop-range-preserved : goal.loop-range-preserved
loop-range-preserved c =
    let none : Range ℕ = record { start = 0; end = 0 } in
    let i = c.loop-range.invariant in
    let within = i.within in
    let at = c.max-at.ensures in
    elim c.if-at-range.branch [
      | then-at-range+then-at-first w ↦
          rw w.first-is
          (record {
            from = omega arith;
            within = omega arith;
            before = λ a from below.
                All-more (λ range. ¬ IsIn range a) c.args.ranges.now c.loop-range.range-index none
                c.loop-range-test.true (i.before a from (omega arith))
                (λ here. omega (arith, here.0, here.1));
            behind = λ _ all.
                all c.loop-range.range-index none c.loop-range-test.true (omega arith, omega arith);
          })
      | else-at-range w ↦
          rw w.first-is
          (record {
            from = i.from;
            within = i.within;
            before = λ a from below.
                All-more (λ range. ¬ IsIn range a) c.args.ranges.now c.loop-range.range-index none
                c.loop-range-test.true (i.before a from below)
                (λ here. elim w.else-at-range.branch [
                  | else-at-range-via-then-at-range+else-at-first w' ↦
                      omega (arith, here.0, here.1)
                  | else-at-range-via-else-at-range w' ↦ omega (arith, here.0, here.1)
                ]);
            behind = i.behind;
          })
    ]

pub returns-clause-before : goal.returns-clause-before
returns-clause-before c = λ a from below.
    let all = take_all c.loop-range.range-index c.args.ranges.now c.loop-range-test.false in
    All-same (λ range. ¬ IsIn range a) c.args.ranges.now
    (take c.loop-range.range-index c.args.ranges.now) (sym all)
    (c.loop-range.invariant.before a from below)
