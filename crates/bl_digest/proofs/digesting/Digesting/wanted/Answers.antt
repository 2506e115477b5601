use Rattle.std.proofs.Common.{◌≡◌, length, sym, subst, arith, Some, None, Option}
use Rattle.bl_digest.specs.declared.file_range.FileRange.{FileRange}
use Rattle.bl_digest.specs.PlanInSteps.{DigestingFacts}
use Rattle.bl_digest.specs.Ranges.{ranges_of, wanted_after}
use Rattle.bl_digest.specs.internal.Filling.{plan_kept}
use Rattle.bl_digest.proofs.UnderWayLemmas.{wants_none, wants_some}
use Rattle.bl_digest.proofs.digesting.Digesting.wanted.Goals as goal

pub returns-else-self-gt0 : goal.returns-else-self-gt0
returns-else-self-gt0 g c =
    let i = c.self.inside in
    let plan = plan_kept i.protocol i.registers i.hasher.places i.told.steps.items i.told.own in
    subst
    (λ (f : DigestingFacts).
    ◌≡◌ {A = Option FileRange} None (wanted_after (ranges_of f.plan.steps) (length f.fed)))
    c.self.view_is
    (sym
    (wants_none plan i.fed.bytes i.hasher.front i.hasher.taken i.range i.next c.self.invariant
    (omega (arith, c.if-self-gt0.false))))

pub returns-then-self-gt0 : goal.returns-then-self-gt0
returns-then-self-gt0 g c =
    let i = c.self.inside in
    let plan = plan_kept i.protocol i.registers i.hasher.places i.told.steps.items i.told.own in
    subst
    (λ (f : DigestingFacts).
    ◌≡◌ {A = Option FileRange} (Some i.range)
    (wanted_after (ranges_of f.plan.steps) (length f.fed)))
    c.self.view_is
    (sym
    (wants_some plan i.fed.bytes i.hasher.front i.hasher.taken i.range i.next c.self.invariant
    c.if-self-gt0.true))
