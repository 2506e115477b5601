use Rattle.std.proofs.Common.{ℕ, List, ap, sym, subst, ◌∙◌}
use Rattle.std.specs.declared.ops.Range.{Range}
use Rattle.bl_map.specs.MachineFacts.{AllUsable}
use Rattle.bl_plan.specs.Permitted.{AreUntaken}
use Rattle.bl_plan.specs.PlannerFacts.{PlannerFacts, with_taken}
use Rattle.bl_plan.proofs.PutLemmas.{taken_put_in}
use Rattle.bl_plan.proofs.planner.Planner.take.Goals as goal

pub invariant_of-self-2 : goal.invariant_of-self-2
invariant_of-self-2 g c =
    let same = sym c.self.view_is in
    let usable =
    subst (λ (p : PlannerFacts). AllUsable p.facts c.args.range.start c.args.range.end) same
    c.requires.usable in
    let free =
    subst (λ (p : PlannerFacts). AreUntaken p.taken c.args.range.start c.args.range.end) same
    c.requires.free in
    let insert_sorted = rw c.as_slice.ensures.value at c.position_for-at.ensures.value in
    rw (c.in_ok-insert.ensures.items, insert_sorted)
    (taken_put_in c.self.inside.machine.now c.args.range c.self.inside.taken.items c.requires.filled
    usable free c.self.invariant)

pub returns-clause-taken : goal.returns-clause-taken
returns-clause-taken g c =
    let insert_sorted = rw c.as_slice.ensures.value at c.position_for-at.ensures.value in
    let renewed =
    ap (λ (xs : List (Range ℕ)).
    let p : PlannerFacts = record { facts = c.self.inside.machine.now; taken = xs } in p)
    (c.in_ok-insert.ensures.items ∙ insert_sorted) in
    renewed ∙ ap (λ (p : PlannerFacts). with_taken p c.args.range) c.self.view_is
