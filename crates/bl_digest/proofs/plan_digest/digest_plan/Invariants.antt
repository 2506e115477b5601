use Rattle.std.proofs.Common.{◌≡◌, ◌-◌, length, map}
use Rattle.bl_load.specs.PlanSteps.{steps_from}
use Rattle.bl_digest.specs.PlanInSteps.{plan_in_steps}
use Rattle.bl_digest.specs.Ranges.{ranges_of}
use Rattle.bl_digest.specs.internal.Coming.{length_of_ranges, AreFirstOf}
use Rattle.bl_digest.proofs.plan_digest.digest_plan.Given as goal

-- the first bytes of the ranges were fed
abbrev pub invariant-loop-range : goal.invariant-loop-range
invariant-loop-range g l = record {
  plan : l.digesting.plan ≡ plan_in_steps l.plan;
  first : AreFirstOf (map g.V.ByteView.bytes l.files) (ranges_of l.digesting.plan.steps)
      l.digesting.fed;
  room : length l.buffer.items ≡ 16384;
}

abbrev pub decreases-loop-range : goal.decreases-loop-range
decreases-loop-range g l =
    length_of_ranges (ranges_of (steps_from 0 l.plan.parts.items)) - length l.digesting.fed
