use Rattle.std.proofs.Common.{◌+◌, ℕ, List, ap, subst, ◌∙◌}
use Rattle.std.specs.declared.ops.Range.{Range}
use Rattle.bl_map.specs.MachineFacts.{AllUsable}
use Rattle.bl_plan.specs.Permitted.{AreUntaken}
use Rattle.bl_plan.specs.PlannerFacts.{PlannerFacts}
use Rattle.bl_plan.proofs.SearchLemmas.{at_side_permitted, ends_below}
use Rattle.bl_plan.proofs.planner.Planner.place.Goals as goal

pub take-requires-clause-free : goal.take-requires-clause-free
take-requires-clause-free g c =
    subst (λ (xs : List (Range ℕ)). AreUntaken xs c.in-Some.at (c.in-Some.at + c.args.length))
    (c.as_slice-taken.ensures.value ∙ ap (λ (p : PlannerFacts). p.taken) c.self.view_is)
    (at_side_permitted c.args.side _ _ c.in-Some.ensures).apart

pub take-requires-clause-usable : goal.take-requires-clause-usable
take-requires-clause-usable g c =
    subst (λ (p : PlannerFacts). AllUsable p.facts c.in-Some.at (c.in-Some.at + c.args.length))
    c.self.view_is (at_side_permitted c.args.side _ _ c.in-Some.ensures).usable

pub returns-in_ok-take-in-Some-clause-below : goal.returns-in_ok-take-in-Some-clause-below
returns-in_ok-take-in-Some-clause-below g c =
    ends_below _ _ _ _ _ _ c.in-Some.at c.requires.filled
    (at_side_permitted c.args.side _ _ c.in-Some.ensures)
