use Rattle.std.proofs.Common.{◌≡◌, length, ap, ◌∙◌, arith}
use Rattle.bl_load.specs.PlanContents.{places_of}
use Rattle.bl_digest.specs.PlanInSteps.{handover_in_steps}
use Rattle.bl_digest.specs.internal.Filling.{length_of_steps, plan_kept}
use Rattle.bl_digest.specs.internal.Hashing.{total_of}
use Rattle.bl_digest.proofs.StepBytesLemmas.{steps_hand_over}
use Rattle.bl_digest.proofs.UnderWayLemmas.{steps_long, parts_long, takes_there, same_plan, fed_first}
use Rattle.bl_digest.proofs.UnderWayLemmas.{under_way}
use Rattle.bl_digest.proofs.digesting.Digesting.begin.Goals as goal

pub take_steps-stop-requires-clause-room : goal.take_steps-stop-requires-clause-room
take_steps-stop-requires-clause-room g c =
    let steps = c.in_ok-told.told.steps.items in
    let parts = c.args.plan.now.parts.items in
    let none = ap length c.in_ok-hasher.ensures.taken in
    let places = ap total_of c.in_ok-hasher.ensures.places in
    omega (arith, steps_long steps, c.in_ok-told.ensures.whole, parts_long parts, places, none)

pub take_steps-stop-requires-clause-held : goal.take_steps-stop-requires-clause-held
take_steps-stop-requires-clause-held g c =
    takes_there c.requires.0 (length c.in_ok-told.told.own) c.requires.1
    c.in_ok-told.told.steps.items
    (c.in_ok-told.ensures.sound c.requires.0 c.requires.1 c.requires.2)

pub invariant_of-result : goal.invariant_of-result
invariant_of-result g c =
    let plan = c.args.plan.now in
    let steps = c.in_ok-told.told.steps.items in
    let own = c.in_ok-told.told.own in
    let places = places_of plan in
    let new = c.take_steps-stop.new.hasher in
    let stop = c.take_steps-stop.result in
    let all : length_of_steps steps ≡ total_of places =
    omega (arith, steps_long steps, c.in_ok-told.ensures.whole, parts_long plan.parts.items) in
    under_way plan.protocol plan.registers places new.places steps own _ c.empty.result.bytes
    c.in_ok-hasher.hasher.front new.front new.taken stop.range stop.next
    (c.take_steps-stop.ensures.same.1 ∙ c.in_ok-hasher.ensures.places) c.empty.ensures
    c.take_steps-stop.ensures.same.0
    (fed_first (plan_kept plan.protocol plan.registers places steps own)
    c.in_ok-hasher.hasher.front c.in_ok-hasher.hasher.taken new.taken stop.range stop.next
    c.in_ok-hasher.ensures.front c.in_ok-hasher.ensures.taken c.take_steps-stop.ensures.goes_on all
    (takes_there c.requires.0 (length own) c.requires.1 steps
    (c.in_ok-told.ensures.sound c.requires.0 c.requires.1 c.requires.2)))
    c.take_steps-stop.ensures.small c.take_steps-stop.ensures.last

pub returns-clause-handover : goal.returns-clause-handover
returns-clause-handover g c = λ texts size loadable.
    let plan = c.args.plan.now in
    ap (handover_in_steps texts)
    (same_plan plan c.take_steps-stop.new.hasher.places c.in_ok-told.told.steps.items
    c.in_ok-told.told.own (c.take_steps-stop.ensures.same.1 ∙ c.in_ok-hasher.ensures.places)
    c.in_ok-told.ensures.steps c.in_ok-told.ensures.own)
    ∙ steps_hand_over texts size plan loadable
