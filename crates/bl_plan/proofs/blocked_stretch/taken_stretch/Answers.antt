use Rattle.std.proofs.Common.{arith, ℕ, ap}
use Rattle.std.proofs.lemmas.List.{get_or_default}
use Rattle.std.specs.declared.ops.Range.{Range}
use Rattle.bl_plan.proofs.ApartLemmas.{open_where}
use Rattle.bl_plan.proofs.blocked_stretch.taken_stretch.Goals as goal

pub returns-else-range-end : goal.returns-else-range-end
returns-else-range-end c =
    open_where _ c.ended_by-next.result _ _ c.requires.apart c.ended_by-next.ensures.before
    (λ d within.
    let f =
    ap (λ (r : Range ℕ). r.start)
    (get_or_default c.args.taken.now c.ended_by-next.result d
    record { start = 0; end = 0 } within) in omega (arith, c.if-range-end.false))
