use Rattle.std.proofs.Common.{rules, ℕ, List, ap, subst, ◌∙◌}
use Rattle.std.specs.declared.ops.Range.{Range}
use Rattle.bl_map.specs.MachineFacts.{AllUsable}
use Rattle.bl_plan.specs.Permitted.{AreUntaken, AreUnavoided}
use Rattle.bl_plan.specs.PlannerFacts.{PlannerFacts}
use Rattle.bl_plan.proofs.BlockLemmas.{not_all}
use Rattle.bl_plan.proofs.planner.Planner.take_fixed.Goals as goal

pub take-requires-clause-free : goal.take-requires-clause-free
take-requires-clause-free g c =
    subst (λ (xs : List (Range ℕ)). AreUntaken xs c.args.range.start c.args.range.end)
    (c.as_slice.ensures.value ∙ ap (λ (p : PlannerFacts). p.taken) c.self.view_is)
    c.in_default-taken_stretch.ensures

pub returns-in-Some-clause-fault : goal.returns-in-Some-clause-fault
returns-in-Some-clause-fault g c = λ both.
    subst (λ (p : PlannerFacts). AreUnavoided p.facts c.args.range.start c.args.range.end → ⊥)
    c.self.view_is (not_all _ _ _ _ c.requires.filled c.in-Some.ensures) both.1

pub returns-in-Some-taken_stretch-clause-fault : goal.returns-in-Some-taken_stretch-clause-fault
returns-in-Some-taken_stretch-clause-fault g c =
    let meets = not_all _ _ _ _ c.requires.filled c.in-Some-taken_stretch.ensures in (
      subst (λ (p : PlannerFacts). AllUsable p.facts c.args.range.start c.args.range.end)
          c.self.view_is c.if-not-is_usable.ensures.usable,
      subst (λ (p : PlannerFacts). AreUnavoided p.facts c.args.range.start c.args.range.end)
          c.self.view_is c.in_default.ensures,
      subst (λ (xs : List (Range ℕ)). AreUntaken xs c.args.range.start c.args.range.end → ⊥)
          (c.as_slice.ensures.value ∙ ap (λ (p : PlannerFacts). p.taken) c.self.view_is) meets,
    )

pub returns-clause-free : goal.returns-clause-free
returns-clause-free g c = (
  subst (λ (p : PlannerFacts). AllUsable p.facts c.args.range.start c.args.range.end)
      c.self.view_is c.if-not-is_usable.ensures.usable,
  subst (λ (p : PlannerFacts). AreUnavoided p.facts c.args.range.start c.args.range.end)
      c.self.view_is c.in_default.ensures,
  subst (λ (xs : List (Range ℕ)). AreUntaken xs c.args.range.start c.args.range.end)
      (c.as_slice.ensures.value
      ∙ ap (λ (p : PlannerFacts). p.taken) c.self.view_is) c.in_default-taken_stretch.ensures,
)

pub returns-clause-taken : goal.returns-clause-taken
returns-clause-taken g c = search rules

pub take-requires-clause-usable : goal.take-requires-clause-usable
take-requires-clause-usable g c =
    subst (λ (p : PlannerFacts). AllUsable p.facts c.args.range.start c.args.range.end)
    c.self.view_is c.if-not-is_usable.ensures.usable

pub returns-then-not-is_usable-clause-fault : goal.returns-then-not-is_usable-clause-fault
returns-then-not-is_usable-clause-fault g c = λ both.
    subst (λ (p : PlannerFacts). AllUsable p.facts c.args.range.start c.args.range.end → ⊥)
    c.self.view_is c.if-not-is_usable.ensures.usable both.0
