use Rattle.std.proofs.Common.{[], arith, ap, refl, ◌∙◌, ◌<◌, length}
use Rattle.std.proofs.lemmas.Result.{err_from_is_err_and}
use Rattle.std.proofs.lemmas.List.{drop_all}
use Rattle.bl_plan.specs.PlannerFacts.{PlannerFacts}
use Rattle.bl_plan.specs.declared.fault.PlanFault.TheVariants.{NotUsable, Overlap, NoRoom}
use Rattle.bl_load.proofs.UnplacedLemmas.{placed_step, unplaced_step, unplaced_here}
use Rattle.bl_load.proofs.unplaced_row.first_unplaced.Goals as goal

pub loop-row-preserved : goal.loop-row-preserved
loop-row-preserved g c =
    let facts = c.args.machine.now in
    let all = c.args.rows.now in
    let i = c.loop-row.row-index in
    let within : i < length all = omega (arith, c.loop-row-test.true) in
    let kept = ap (λ (p : PlannerFacts). p.facts) c.in-Ok.ensures.taken in
    let more = ap (λ (p : PlannerFacts). p.taken) c.in-Ok.ensures.taken in
    record {
      machine = kept ∙ c.loop-row.invariant.machine;
      placed =
          placed_step facts c.loop-row.planner.taken all i _ within c.loop-row.planner.facts
          c.loop-row.invariant.machine _ c.in-Ok.field-0 c.in-Ok.ensures.chosen more
          c.loop-row.invariant.placed;
      unplaced = λ which.
          unplaced_step facts c.loop-row.planner.taken all i _ within c.loop-row.planner.facts
          c.loop-row.invariant.machine _ c.in-Ok.field-0 c.in-Ok.ensures.chosen more
          which (c.loop-row.invariant.unplaced which);
    }

pub returns-in-Err-NotUsable-clause-which : goal.returns-in-Err-NotUsable-clause-which
returns-in-Err-NotUsable-clause-which g c =
    let all = c.args.rows.now in
    let i = c.loop-row.row-index in
    let within : i < length all = omega (arith, c.loop-row-test.true) in
    unplaced_here c.args.machine.now c.loop-row.planner.taken all i _ within
    c.loop-row.planner.facts c.loop-row.invariant.machine c.in-Err-NotUsable.field-0 NotUsable
    c.in-Err-NotUsable.field-0-is c.in-Err-NotUsable.ensures.fault (λ h. h)
    (c.loop-row.invariant.unplaced _)

pub returns-in-Err-Overlap-clause-which : goal.returns-in-Err-Overlap-clause-which
returns-in-Err-Overlap-clause-which g c =
    let all = c.args.rows.now in
    let i = c.loop-row.row-index in
    let within : i < length all = omega (arith, c.loop-row-test.true) in
    unplaced_here c.args.machine.now c.loop-row.planner.taken all i _ within
    c.loop-row.planner.facts c.loop-row.invariant.machine c.in-Err-Overlap.field-0 Overlap
    c.in-Err-Overlap.field-0-is c.in-Err-Overlap.ensures.fault (λ h. h)
    (c.loop-row.invariant.unplaced _)

pub returns-in-Err-NoRoom-clause-which : goal.returns-in-Err-NoRoom-clause-which
returns-in-Err-NoRoom-clause-which g c =
    let all = c.args.rows.now in
    let i = c.loop-row.row-index in
    let within : i < length all = omega (arith, c.loop-row-test.true) in
    unplaced_here c.args.machine.now c.loop-row.planner.taken all i _ within
    c.loop-row.planner.facts c.loop-row.invariant.machine c.in-Err-NoRoom.field-0 NoRoom
    c.in-Err-NoRoom.field-0-is c.in-Err-NoRoom.ensures.fault (λ h. h)
    (c.loop-row.invariant.unplaced _)

pub returns-in_err-planner-clause-which : goal.returns-in_err-planner-clause-which
returns-in_err-planner-clause-which g c =
    let p = err_from_is_err_and c.from_residual.result c.from_residual.ensures.1 in
    rw p.1 tt

pub returns-in_err-planner-clause-fault : goal.returns-in_err-planner-clause-fault
returns-in_err-planner-clause-fault g c =
    let p = err_from_is_err_and c.from_residual.result c.from_residual.ensures.1 in
    rw (p.1, p.2) refl

pub returns-in-Err-NoMemory-clause-which : goal.returns-in-Err-NoMemory-clause-which
returns-in-Err-NoMemory-clause-which g c = tt

pub returns-in-Err-NoMemory-clause-fault : goal.returns-in-Err-NoMemory-clause-fault
returns-in-Err-NoMemory-clause-fault g c = refl

pub returns-in-Err-NotUsable-clause-fault : goal.returns-in-Err-NotUsable-clause-fault
returns-in-Err-NotUsable-clause-fault g c = tt

pub returns-in-Err-Overlap-clause-fault : goal.returns-in-Err-Overlap-clause-fault
returns-in-Err-Overlap-clause-fault g c = tt

pub returns-in-Err-NoRoom-clause-fault : goal.returns-in-Err-NoRoom-clause-fault
returns-in-Err-NoRoom-clause-fault g c = tt

pub returns-clause-fault : goal.returns-clause-fault
returns-clause-fault g c = tt

pub returns-clause-which : goal.returns-clause-which
returns-clause-which g c =
    let placed =
    rw (drop_all c.loop-row.row-index c.args.rows.now c.loop-row-test.false) at
    c.loop-row.invariant.placed in
    placed ([], tt)
