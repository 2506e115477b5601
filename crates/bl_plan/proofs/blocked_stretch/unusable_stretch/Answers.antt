use Rattle.std.proofs.Common.{arith}
use Rattle.bl_plan.proofs.KindLemmas.{gap_blocks, last_blocks, usable_more, ends_more}
use Rattle.bl_plan.proofs.blocked_stretch.unusable_stretch.Goals.{else-from-run-via-then-from-run+then-start-run+else-from-end}
use Rattle.bl_plan.proofs.blocked_stretch.unusable_stretch.Goals.{else-from-run-via-then-from-run+else-start-run}
use Rattle.bl_plan.proofs.blocked_stretch.unusable_stretch.Goals.{else-from-run-via-else-from-run}
use Rattle.std.proofs.lemmas.Grind.{common_steps}
use Rattle.bl_plan.proofs.blocked_stretch.unusable_stretch.Goals as goal

pub returns-then-from-end : goal.returns-then-from-end
returns-then-from-end c =
    gap_blocks _ _ _ _ _ _ c.requires.runs c.loop-run-test.true c.loop-run.invariant.before
    c.requires.forward c.if-from-run.true c.if-start-run.true c.if-from-end.true

pub returns-then-from-end-2 : goal.returns-then-from-end-2
returns-then-from-end-2 c =
    last_blocks _ _ _ _ _ _ c.loop-run-test.false c.loop-run.invariant.before c.requires.forward
    c.if-from-end-2.true (omega (arith, c.ranges.end.fits))

pub loop-run-preserved : goal.loop-run-preserved
loop-run-preserved c = record {
  before = λ j d below usable. ends_more _ _ j _ d c.requires.runs c.loop-run-test.true below;
  usable =
      λ a above below in_run.
      usable_more _ _ _ _ _ a _ c.requires.runs c.loop-run-test.true c.in-Usable.is
      (λ p q r. elim c.else-from-run.branch [
        | else-from-run-via-then-from-run+then-start-run+else-from-end w ↦ absurd (omega arith)
        | else-from-run-via-then-from-run+else-start-run w ↦ absurd (omega arith)
        | else-from-run-via-else-from-run w ↦ absurd (omega arith)
      ])
      c.loop-run.invariant.usable above below in_run;
}

pub loop-run-preserved-in_default : goal.loop-run-preserved-in_default
loop-run-preserved-in_default c = grind (arith, common_steps)
