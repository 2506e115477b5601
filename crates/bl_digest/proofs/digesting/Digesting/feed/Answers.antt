use Rattle.std.proofs.Common.{◌≡◌, ◌++◌, ℕ, List, length, drop, ap, ◌∙◌}
use Rattle.std.proofs.Common.{subst, arith}
use Rattle.std.proofs.Math.Nat.{mod-lt}
use Rattle.bl_digest.specs.Ranges.{range_behind}
use Rattle.bl_digest.specs.internal.Filling.{plan_kept, TakesUpTo}
use Rattle.bl_digest.specs.internal.Hashing.{HashedFacts, total_of}
use Rattle.bl_digest.proofs.UnderWayLemmas.{is_within, has_room, fed_more, fed_on, under_way}
use Rattle.bl_digest.proofs.digesting.Digesting.feed.Goals as goal

pub take-requires : goal.take-requires
take-requires g c =
    let i = c.self.inside in
    let plan = plan_kept i.protocol i.registers i.hasher.places i.told.steps.items i.told.own in
    let within =
    is_within plan i.fed.bytes i.hasher.front i.hasher.taken i.range i.next c.self.invariant
    (length c.args.bytes.now) (rw (← c.self.view_is) at c.requires) in
    has_room plan i.fed.bytes i.hasher.front i.hasher.taken i.range i.next c.self.invariant.is_fed
    (length c.args.bytes.now) within

pub overflow_sub-self : goal.overflow_sub-self
overflow_sub-self g c =
    let i = c.self.inside in
    let plan = plan_kept i.protocol i.registers i.hasher.places i.told.steps.items i.told.own in
    is_within plan i.fed.bytes i.hasher.front i.hasher.taken i.range i.next c.self.invariant
    (length c.args.bytes.now) (rw (← c.self.view_is) at c.requires)

pub take_steps-stop-requires-clause-room : goal.take_steps-stop-requires-clause-room
take_steps-stop-requires-clause-room g c =
    let i = c.self.inside in
    let plan = plan_kept i.protocol i.registers i.hasher.places i.told.steps.items i.told.own in
    let within =
    is_within plan i.fed.bytes i.hasher.front i.hasher.taken i.range i.next c.self.invariant
    (length c.args.bytes.now) (rw (← c.self.view_is) at c.requires) in
    let more =
    fed_more plan i.fed.bytes i.hasher.front i.hasher.taken i.range i.next
    c.self.invariant.is_fed c.args.bytes.now within in
    let taken = ap (λ (h : HashedFacts). length h.taken) c.take.ensures in
    let places = ap (λ (h : HashedFacts). total_of h.places) c.take.ensures in
    omega (arith, more.count, taken, places)

pub invariant_of-self : goal.invariant_of-self
invariant_of-self g c =
    let i = c.self.inside in
    let bytes = c.args.bytes.now in
    let plan = plan_kept i.protocol i.registers i.hasher.places i.told.steps.items i.told.own in
    let new = c.take_steps-stop.new.hasher in
    let stop = c.take_steps-stop.result in
    let steps = i.told.steps.items in
    let within =
    is_within plan i.fed.bytes i.hasher.front i.hasher.taken i.range i.next c.self.invariant
    (length bytes) (rw (← c.self.view_is) at c.requires) in
    let more =
    fed_more plan i.fed.bytes i.hasher.front i.hasher.taken i.range i.next
    c.self.invariant.is_fed bytes within in
    let taken = ap (λ (h : HashedFacts). h.taken) c.take.ensures in
    let front = ap (λ (h : HashedFacts). h.front) c.take.ensures in
    let places = ap (λ (h : HashedFacts). h.places) c.take.ensures in
    let goes_on =
    subst
    (λ (l : List ℕ).
    TakesUpTo i.told.own (drop i.next steps) l new.taken stop.range (drop stop.next steps))
    taken c.take_steps-stop.ensures.goes_on in
    under_way i.protocol i.registers i.hasher.places new.places steps i.told.own
    (i.fed.bytes ++ bytes) c.with_part-self-inside.result.bytes i.hasher.front new.front new.taken
    stop.range stop.next (c.take_steps-stop.ensures.same.1 ∙ places) c.with_part-self-inside.ensures
    (c.take_steps-stop.ensures.same.0 ∙ front)
    (fed_on plan (i.fed.bytes ++ bytes) i.hasher.front (i.hasher.taken ++ bytes)
    (range_behind i.range (length bytes)) i.next more new.taken stop.range stop.next
    c.if-self-eq0.true goes_on)
    c.take_steps-stop.ensures.small c.take_steps-stop.ensures.last

pub invariant_of-self-else-self-eq0 : goal.invariant_of-self-else-self-eq0
invariant_of-self-else-self-eq0 g c =
    let i = c.self.inside in
    let bytes = c.args.bytes.now in
    let plan = plan_kept i.protocol i.registers i.hasher.places i.told.steps.items i.told.own in
    let new = c.take.new.self in
    let within =
    is_within plan i.fed.bytes i.hasher.front i.hasher.taken i.range i.next c.self.invariant
    (length bytes) (rw (← c.self.view_is) at c.requires) in
    let more =
    fed_more plan i.fed.bytes i.hasher.front i.hasher.taken i.range i.next
    c.self.invariant.is_fed bytes within in
    let taken : new.taken ≡ i.hasher.taken ++ bytes = ap (λ (h : HashedFacts). h.taken) c.take.ensures in
    rw taken
    (under_way i.protocol i.registers i.hasher.places new.places i.told.steps.items i.told.own
    (i.fed.bytes ++ bytes) c.with_part-self-inside.result.bytes i.hasher.front new.front
    (i.hasher.taken ++ bytes) (range_behind i.range (length bytes)) i.next
    (ap (λ (h : HashedFacts). h.places) c.take.ensures) c.with_part-self-inside.ensures
    (ap (λ (h : HashedFacts). h.front) c.take.ensures) more (mod-lt _ (omega arith))
    (λ none. absurd (c.if-self-eq0.false none)))
