use Rattle.std.proofs.Common.{arith}
use Rattle.std.proofs.lemmas.Grind.{common_steps}
use Rattle.std.proofs.Common.{◌+◌, ℕ, List, ap, subst, ◌∙◌}
use Rattle.std.specs.declared.ops.Range.{Range}
use Rattle.bl_plan.specs.Permitted.{AreUntaken}
use Rattle.bl_plan.specs.PlannerFacts.{PlannerFacts}
use Rattle.bl_plan.proofs.planner.Planner.prefer.Goals as goal

pub take-requires-clause-free : goal.take-requires-clause-free
take-requires-clause-free g c =
    subst (λ (xs : List (Range ℕ)). AreUntaken xs c.args.at (c.args.at + c.args.length))
    (c.as_slice-taken.ensures.value ∙ ap (λ (p : PlannerFacts). p.taken) c.self.view_is)
    c.if-not-is_permitted.ensures.apart

pub returns-then-not-is_permitted-clause-preferred : goal.returns-then-not-is_permitted-clause-preferred
returns-then-not-is_permitted-clause-preferred g c = grind (arith, common_steps)

pub returns-then-not-is_permitted-clause-taken : goal.returns-then-not-is_permitted-clause-taken
returns-then-not-is_permitted-clause-taken g c = grind (arith, common_steps)

pub returns-then-not-is_permitted-clause-fault : goal.returns-then-not-is_permitted-clause-fault
returns-then-not-is_permitted-clause-fault g c = grind (arith, common_steps)

pub returns-clause-preferred : goal.returns-clause-preferred
returns-clause-preferred g c = grind (arith, common_steps)

pub returns-clause-taken : goal.returns-clause-taken
returns-clause-taken g c = grind (arith, common_steps)

pub returns-clause-below : goal.returns-clause-below
returns-clause-below g c = grind (arith, common_steps)

pub take-requires-clause-usable : goal.take-requires-clause-usable
take-requires-clause-usable g c = grind (arith, common_steps)
