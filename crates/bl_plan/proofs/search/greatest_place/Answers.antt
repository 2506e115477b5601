use Rattle.std.proofs.lemmas.Grind.{common_steps}
use Rattle.std.proofs.Common.{arith, inl, inr, ◌+◌}
use Rattle.std.proofs.lemmas.Bool.{cases_lt}
use Rattle.bl_plan.proofs.BlockLemmas.{none_down_to_start}
use Rattle.bl_plan.proofs.SearchLemmas.{ends_in_room, starts_in_room}
use Rattle.bl_plan.proofs.search.greatest_place.Goals as goal

pub returns-then-end-length : goal.returns-then-end-length
returns-then-end-length g c = λ a p.
    let e =
    ends_in_room _ _ _ _ _ _ a _ c.requires.filled c.end_of_room-end.ensures.greatest p in
    omega (arith, c.if-end-length.true)

pub loop-at-init : goal.loop-at-init
loop-at-init g c =
    let r = c.round_down-at.ensures in
    record {
      multiple = r.aligned;
      in_end = omega (arith, r.below, c.if-end-length.false);
      none = λ a p.
          let e =
          ends_in_room _ _ _ _ _ _ a _ c.requires.filled c.end_of_room-end.ensures.greatest p in
          r.greatest a p.aligned (omega arith);
    }

pub returns-then-stretch-length : goal.returns-then-stretch-length
returns-then-stretch-length g c = λ a p.
    none_down_to_start _ _ _ _ _ _ _ a _ c.requires.filled c.in-Some.ensures
    (c.loop-at.invariant.none a p) (omega (arith, c.if-stretch-length.true)) p

pub loop-at-preserved : goal.loop-at-preserved
loop-at-preserved g c =
    let i = c.loop-at.invariant in
    let h = c.in-Some.ensures in
    let r = c.round_down-at-in-loop-at.ensures in
    record {
      multiple = r.aligned;
      in_end = omega (arith, r.below, h.meets_end, i.in_end, c.if-stretch-length.false);
      none = λ a p. elim (cases_lt c.in-Some.stretch.start (a + c.args.length)) [
        | inl reaches ↦
            absurd
            (none_down_to_start _ _ _ _ _ _ _ a _ c.requires.filled c.in-Some.ensures
            (i.none a p) reaches p)
        | inr before ↦ r.greatest a p.aligned (omega arith)
      ];
    }

pub max-first-requires : goal.max-first-requires
max-first-requires g c = grind (arith, common_steps)

pub end_of_room-end-requires : goal.end_of_room-end-requires
end_of_room-end-requires g c κs = grind (arith, common_steps)

pub round_down-at-requires : goal.round_down-at-requires
round_down-at-requires g c = grind (arith, common_steps)

pub blocked_stretch-requires-clause-apart : goal.blocked_stretch-requires-clause-apart
blocked_stretch-requires-clause-apart g c = grind (arith, common_steps)

pub blocked_stretch-requires-clause-forward : goal.blocked_stretch-requires-clause-forward
blocked_stretch-requires-clause-forward g c = grind (arith, common_steps)

pub blocked_stretch-requires-clause-above : goal.blocked_stretch-requires-clause-above
blocked_stretch-requires-clause-above g c = grind (arith, common_steps)

pub blocked_stretch-requires-clause-in_size : goal.blocked_stretch-requires-clause-in_size
blocked_stretch-requires-clause-in_size g c = grind (arith, common_steps)

pub blocked_stretch-requires-clause-below : goal.blocked_stretch-requires-clause-below
blocked_stretch-requires-clause-below g c = grind (arith, common_steps)

pub returns-in_default : goal.returns-in_default
returns-in_default g c = grind (arith, common_steps)

pub returns : goal.returns
returns g c = λ a p.
    let start = starts_in_room _ _ _ _ _ _ a c.requires.filled p in
    omega (arith, c.loop-at.invariant.none a p, c.loop-at-test.false, p.above, start)
