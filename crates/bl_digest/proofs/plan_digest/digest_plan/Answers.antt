use Rattle.std.proofs.Common.{rules, ◌≡◌, length, map, ap, sym, ◌∙◌, subst, arith, All, None}
use Rattle.std.proofs.lemmas.List.{places}
use Rattle.bl_digest.specs.Digests.{digests_of}
use Rattle.bl_digest.specs.PlanInSteps.{PlanInSteps, handover_in_steps}
use Rattle.bl_digest.specs.Ranges.{ranges_of, wanted_after}
use Rattle.bl_digest.specs.internal.Coming.{length_of_ranges, LiesInFiles}
use Rattle.bl_digest.proofs.RangeLemmas.{plan_lies, all_came}
use Rattle.bl_digest.proofs.StepBytesLemmas.{steps_hand_over}
use Rattle.bl_digest.proofs.plan_digest.digest_plan.Goals as goal

pub feed_some-requires-clause-lie : goal.feed_some-requires-clause-lie
feed_some-requires-clause-lie g c =
    let texts = map g.V.ByteView.bytes c.args.files.now in
    subst (λ (p : PlanInSteps). All (LiesInFiles texts) (ranges_of p.steps))
    (sym c.loop-range.invariant.plan) (plan_lies texts c.args.plan.now c.requires)

pub loop-range-smaller : goal.loop-range-smaller
loop-range-smaller g c =
    let same = ap (λ (p : PlanInSteps). length_of_ranges (ranges_of p.steps)) c.loop-range.invariant.plan in
    omega (arith, c.feed_some.ensures.more, c.feed_some.ensures.within, same)

pub returns : goal.returns
returns g c =
    let texts = map g.V.ByteView.bytes c.args.files.now in
    let digesting = c.loop-range.digesting in
    let none : wanted_after (ranges_of digesting.plan.steps) (length digesting.fed) ≡ None = cc in
    c.end.ensures.files texts
    (all_came texts (ranges_of digesting.plan.steps) digesting.fed none c.loop-range.invariant.first)
    ∙ ap (λ (p : PlanInSteps). digests_of (handover_in_steps texts p)) c.loop-range.invariant.plan
    ∙ ap digests_of (steps_hand_over texts c.requires.0 c.args.plan.now c.requires.1)

pub loop-range-preserved : goal.loop-range-preserved
loop-range-preserved g c = record {
  plan = c.feed_some.ensures.plan ∙ c.loop-range.invariant.plan;
  first = rw c.feed_some.ensures.plan c.feed_some.ensures.first;
  room = search (rules, places);
}
