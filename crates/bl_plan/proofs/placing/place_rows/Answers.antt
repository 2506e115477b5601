use Rattle.std.proofs.Common.{◌≡◌, ◌+◌, ◌≤◌, ◌∷◌, ◌∙◌, drop, get_or, arith, ap, subst}
use Rattle.std.proofs.lemmas.Grind.{common_steps}
use Rattle.std.proofs.lemmas.List.{drop_all, drop_more}
use Rattle.std.proofs.lemmas.List.Elements.{All-push}
use Rattle.bl_map.specs.MachineFacts.{MachineFacts}
use Rattle.bl_plan.specs.declared.part.Choice.TheVariants.{Fixed}
use Rattle.bl_plan.specs.declared.part.Place.{Place}
use Rattle.bl_plan.specs.declared.part.Role.TheVariants.{Kernel}
use Rattle.bl_plan.specs.declared.part.Row.{Row}
use Rattle.bl_plan.specs.Placed.{IsChosen}
use Rattle.bl_plan.specs.PlannerFacts.{PlannerFacts}
use Rattle.bl_plan.proofs.PlaceLemmas.{placed_all, one_more_placed, one_more_refused}
use Rattle.bl_plan.proofs.placing.place_rows.Goals as goal

pub returns-clause-placed : goal.returns-clause-placed
returns-clause-placed g c =
    placed_all c.args.machine.now c.loop-row.planner.taken _ c.args.rows.now c.loop-row.places.items
    (drop_all _ _ c.loop-row-test.false) c.loop-row.invariant.rest

pub loop-row-init : goal.loop-row-init
loop-row-init g c = grind (arith, common_steps)

pub loop-row-preserved : goal.loop-row-preserved
loop-row-preserved g c =
    let i = c.loop-row.invariant in
    let k = c.loop-row.row-index in
    let rows = c.args.rows.now in
    let none : Row = record { role = Kernel; index = 0; length = 0; choice = Fixed 0 } in
    let cons : drop k rows ≡ get_or rows k none ∷ drop (k + 1) rows =
    drop_more rows k none c.loop-row-test.true in
    let step = c.in_ok-address.ensures in
    let chosen =
    subst (λ (f : MachineFacts). IsChosen f c.loop-row.planner.taken (get_or rows k none).length
    (get_or rows k none).choice c.in_ok-address.address) i.machine step.chosen in
    let put = ap (λ (p : PlannerFacts). p.taken) step.taken in
    record {
      machine = ap (λ (p : PlannerFacts). p.facts) step.taken ∙ i.machine;
      rest =
          one_more_placed _ _ _ _ _ _ _ _ cons chosen put _ _ c.in_ok-push.ensures.items i.rest;
      refused = λ fault.
          one_more_refused _ _ _ _ _ _ _ _ cons chosen put fault (i.refused fault);
      below =
          rw c.in_ok-push.ensures.items
          (All-push (λ (place : Place). place.address + place.length ≤ 0xFFFFF000)
          c.loop-row.places.items _ i.below step.below);
    }

pub returns-in_err-address-clause-fault : goal.returns-in_err-address-clause-fault
returns-in_err-address-clause-fault g c = grind (arith, common_steps)

pub returns-clause-below : goal.returns-clause-below
returns-clause-below g c = grind (arith, common_steps)
