use Rattle.std.proofs.Common.{arith, rules}
use Rattle.std.proofs.lemmas.Result.{err_from_is_err_and}
use Rattle.bl_plan.proofs.PlaceLemmas.{fixed_chosen, fixed_fault}
use Rattle.bl_plan.proofs.planner.Planner.place_row.Goals as goal

pub returns-in_err-take_fixed-in-Fixed-clause-fault : goal.returns-in_err-take_fixed-in-Fixed-clause-fault
returns-in_err-take_fixed-in-Fixed-clause-fault g c =
    let p = err_from_is_err_and c.from_residual.result c.from_residual.ensures.1 in
    rw (p.1, p.2)
    (fixed_fault _ _ _ c.in-Fixed.at c.in-Some.end _ _ c.in-Fixed.is
    (omega (arith, c.in-Some.ensures)) c.in_err-take_fixed-in-Fixed.ensures.fault)

pub returns-in_ok-take_fixed-in-Fixed-clause-chosen : goal.returns-in_ok-take_fixed-in-Fixed-clause-chosen
returns-in_ok-take_fixed-in-Fixed-clause-chosen g c =
    fixed_chosen _ _ _ c.in-Fixed.at c.in-Some.end _ c.in-Fixed.is
    (omega (arith, c.in-Some.ensures)) c.in_ok-take_fixed-in-Fixed.ensures.free

pub returns-in-Lowest-clause-chosen : goal.returns-in-Lowest-clause-chosen
returns-in-Lowest-clause-chosen g c = search rules
