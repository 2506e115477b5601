use Rattle.std.proofs.Common.{◌∙◌, length-append}
use Rattle.std.proofs.lemmas.List.{drop_more, drop_all, append-nil, append_assoc}
use Rattle.bl_load.proofs.steps.steps_of.Goals as goal

pub push_part_steps-requires : goal.push_part_steps-requires
push_part_steps-requires g c =
    let part = c.part-item.result in
    rw (← c.part-item.is) at (c.requires c.loop-part.part-index part c.loop-part-test.true)

pub loop-part-preserved : goal.loop-part-preserved
loop-part-preserved g c =
    let before = c.loop-part.invariant in
    let part = c.part-item.result in
    let i = c.loop-part.part-index in
    let here = c.loop-part-test.true in
    let steps = rw (drop_more c.args.parts.now i part here, ← c.part-item.is) at before.steps in
    let own = rw (drop_more c.args.parts.now i part here, ← c.part-item.is) at before.own in
    record {
      steps =
          rw (
            c.in_ok-push_part_steps.ensures.own,
            c.in_ok-push_part_steps.ensures.steps,
            length-append,
          ) (simp append_assoc (simp append_assoc at steps));
      own =
          rw c.in_ok-push_part_steps.ensures.own (simp append_assoc own);
    }

pub returns : goal.returns
returns g c =
    let parts = c.args.parts.now in
    let i = c.loop-part.part-index in
    let steps = rw (drop_all i parts c.loop-part-test.false) at c.loop-part.invariant.steps in
    let own = rw (drop_all i parts c.loop-part-test.false) at c.loop-part.invariant.own in
    record { steps = rw append-nil at steps; own = c.from.ensures ∙ (rw append-nil at own) }
