use Rattle.std.proofs.Common.{◌≡◌, ℕ, List, ap, ◌∙◌, subst}
use Rattle.bl_digest.specs.Digests.{digests_of}
use Rattle.bl_digest.specs.DigestsFacts.{DigestsFacts}
use Rattle.bl_digest.specs.PlanInSteps.{DigestingFacts, handover_in_steps, handover_fed}
use Rattle.bl_digest.specs.Ranges.{ranges_of, bytes_of_ranges}
use Rattle.bl_digest.specs.internal.Filling.{plan_kept}
use Rattle.bl_digest.proofs.UnderWayLemmas.{all_taken, came_digests, fed_digests}
use Rattle.bl_digest.proofs.digesting.Digesting.parts.Goals as goal

pub rows-requires : goal.rows-requires
rows-requires g c =
    let i = c.self.inside in
    let plan = plan_kept i.protocol i.registers i.hasher.places i.told.steps.items i.told.own in
    all_taken plan i.fed.bytes i.hasher.front i.hasher.taken i.range i.next c.self.invariant
    (rw (← c.self.view_is) at c.requires)

pub returns-clause-fed : goal.returns-clause-fed
returns-clause-fed g c =
    let i = c.self.inside in
    let plan = plan_kept i.protocol i.registers i.hasher.places i.told.steps.items i.told.own in
    let ended = rw (← c.self.view_is) at c.requires in
    subst (λ (f : DigestingFacts). c.rows.result.now ≡ (digests_of (handover_fed f)).parts) c.self.view_is
    (c.rows.ensures
    ∙ ap (λ (d : DigestsFacts). d.parts)
    (came_digests plan i.fed.bytes i.hasher.front i.hasher.taken i.range i.next c.self.invariant
    ended))

pub returns-clause-files : goal.returns-clause-files
returns-clause-files g c =
    let i = c.self.inside in
    let plan = plan_kept i.protocol i.registers i.hasher.places i.told.steps.items i.told.own in
    let ended = rw (← c.self.view_is) at c.requires in
    subst
    (λ (f : DigestingFacts).
    (texts : List (List ℕ)) → f.fed ≡ bytes_of_ranges texts (ranges_of f.plan.steps)
    → c.rows.result.now ≡ (digests_of (handover_in_steps texts f.plan)).parts)
    c.self.view_is
    (λ texts are.
    c.rows.ensures
    ∙ ap (λ (d : DigestsFacts). d.parts)
    (fed_digests plan i.fed.bytes i.hasher.front i.hasher.taken i.range i.next c.self.invariant
    ended texts are))
