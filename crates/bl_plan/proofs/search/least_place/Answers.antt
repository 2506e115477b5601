use Rattle.std.proofs.lemmas.Grind.{common_steps}
use Rattle.std.proofs.Common.{arith, inl, inr}
use Rattle.std.proofs.lemmas.Bool.{cases_lt}
use Rattle.bl_plan.proofs.BlockLemmas.{none_up_to_end}
use Rattle.bl_plan.proofs.SearchLemmas.{ends_in_room, ends_below}
use Rattle.bl_plan.proofs.search.least_place.Goals as goal

pub returns-then-end-length : goal.returns-then-end-length
returns-then-end-length g c = λ a p.
    let e =
    ends_in_room _ _ _ _ _ _ a _ c.requires.filled c.end_of_room-end.ensures.greatest p in
    omega (arith, c.if-end-length.true)

pub returns : goal.returns
returns g c = λ a p.
    let e = ends_in_room _ _ _ _ _ _ a _ c.requires.filled c.end_of_room-end.ensures.greatest p in
    omega (arith, c.loop-at.invariant.none a p, c.loop-at-test.false, c.if-end-length.false)

pub returns-in_err-at-2 : goal.returns-in_err-at-2
returns-in_err-at-2 g c =
    rw c.from_residual-in_err-at-2.ensures λ a p. elim (cases_lt a c.in-Some.stretch.end) [
      | inl less ↦
          none_up_to_end _ _ _ _ _ _ _ a _ c.requires.filled c.in-Some.ensures
          (c.loop-at.invariant.none a p) less p
      | inr past ↦
          omega (
            arith,
            c.in_err-at-2.ensures.least a p.aligned past,
            ends_below _ _ _ _ _ _ a c.requires.filled p,
          )
    ]

pub loop-at-preserved : goal.loop-at-preserved
loop-at-preserved g c =
    let i = c.loop-at.invariant in
    let h = c.in-Some.ensures in
    let r = c.in_ok-at-2.ensures in
    record {
      multiple = r.aligned;
      above = omega (arith, r.above, h.meets_start, i.above);
      from_low = omega (arith, r.above, h.meets_start, i.from_low);
      none = λ a p. elim (cases_lt a c.in-Some.stretch.end) [
        | inl less ↦
            absurd
            (none_up_to_end _ _ _ _ _ _ _ a _ c.requires.filled c.in-Some.ensures (i.none a p)
            less p)
        | inr past ↦ r.least a p.aligned past
      ];
    }

pub loop-at-init : goal.loop-at-init
loop-at-init g c = grind (arith, common_steps)

pub returns-in_default : goal.returns-in_default
returns-in_default g c = grind (arith, common_steps)

pub returns-in_err-at : goal.returns-in_err-at
returns-in_err-at g c = grind (arith, common_steps)
