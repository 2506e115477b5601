use Rattle.std.proofs.Common.{arith, refl}
use Rattle.std.proofs.lemmas.Grind.{common_steps}
use Rattle.std.proofs.lemmas.List.{drop_more, drop_all, get_or_default, append-nil, append_assoc}
use Rattle.bl_load.specs.Parts.{no_segment}
use Rattle.bl_load.proofs.BlockStepLemmas.{first_below}
use Rattle.bl_load.proofs.SpanLemmas.{high_all}
use Rattle.bl_load.proofs.StepOrderLemmas.{first_is_low}
use Rattle.bl_load.proofs.steps.push_block_steps.Goals as goal

pub loop-segment-init : goal.loop-segment-init
loop-segment-init g c =
    let segments = c.args.segments.now in
    let least = first_is_low segments no_segment c.requires.ordered.some c.requires.ordered.ascending in
    let top = high_all segments 0 no_segment c.requires.ordered.some in
    record {
      above =
          λ k d from within. let up =
          first_below segments no_segment c.requires.ordered.ascending k d within in omega arith;
      fits =
          λ k d from within.
          let up = first_below segments no_segment c.requires.ordered.ascending k d within in
          let high = high_all segments k d within in
          omega (arith, up, high, least);
      end = omega (arith, top);
      rest = refl;
    }

pub loop-segment-preserved : goal.loop-segment-preserved
loop-segment-preserved g c =
    let segments = c.args.segments.now in
    let i = c.loop-segment.segment-index in
    let here = c.loop-segment-test.true in
    let before = c.loop-segment.invariant in
    let up = before.above i no_segment (omega arith) here in
    let end = rw (drop_more segments i no_segment here) at before.end in
    let whole = rw (drop_more segments i no_segment here) at before.rest in
    record {
      above =
          λ k d next within. let ahead =
          rw (get_or_default segments i d no_segment here) at
          (c.requires.ordered.ascending i k d (omega arith) within) in omega arith;
      fits = λ k d next within. before.fits k d (omega arith) within;
      end = omega (arith, up, end);
      rest =
          rw (c.in_ok-push_segment_steps.ensures, c.in_ok-push_step.ensures)
          (simp append_assoc (simp append_assoc at whole));
    }

pub returns-clause-count : goal.returns-clause-count
returns-clause-count g c =
    let segments = c.args.segments.now in
    let i = c.loop-segment.segment-index in
    let least = first_is_low segments no_segment c.requires.ordered.some c.requires.ordered.ascending in
    let end = rw (drop_all i segments c.loop-segment-test.false) at c.loop-segment.invariant.end in
    omega (arith, least, end)

pub returns-clause-steps : goal.returns-clause-steps
returns-clause-steps g c =
    let segments = c.args.segments.now in
    let i = c.loop-segment.segment-index in
    let rest = rw (drop_all i segments c.loop-segment-test.false) at c.loop-segment.invariant.rest in
    rw append-nil at rest

pub overflow_add-at : goal.overflow_add-at
overflow_add-at g c = grind (arith, common_steps)

pub overflow_sub-start-in-loop-segment : goal.overflow_sub-start-in-loop-segment
overflow_sub-start-in-loop-segment g c = grind (arith, common_steps)

pub overflow_add-at-in-loop-segment : goal.overflow_add-at-in-loop-segment
overflow_add-at-in-loop-segment g c = grind (arith, common_steps)

pub push_segment_steps-requires-clause-inside : goal.push_segment_steps-requires-clause-inside
push_segment_steps-requires-clause-inside g c = grind (arith, common_steps)
