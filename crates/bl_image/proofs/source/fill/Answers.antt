use Rattle.std.proofs.Common.{◌-◌, ◌≤◌, ◌≡◌, length, ◌∙◌, sym, rules, arith}
use Rattle.std.proofs.lemmas.Grind.{common_steps}
use Rattle.std.proofs.lemmas.List.{places}
use Rattle.bl_image.proofs.Inputs.{comes_more, comes_as, take_piece}
use Rattle.bl_image.proofs.source.fill.Goals as goal

pub loop-done-preserved : goal.loop-done-preserved
loop-done-preserved g c =
    let done = c.loop-done.done in
    let n = c.in_ok-count.count in
    let out = c.loop-done.out in
    let piece = c.read.new.out in
    let within = c.loop-done.invariant.within in
    let left : length piece ≡ length out - done = search (rules, places) in
    let few : n ≤ length piece = c.in_ok-count.ensures.within in
    record {
      within = search (rules, places);
      came =
          comes_as (sym (take_piece done (length out - done) n out piece within few))
          (comes_more c.loop-done.invariant.came c.in_ok-count.ensures.gave);
      sound = c.in_ok-count.ensures.sound ∙ c.loop-done.invariant.sound;
    }

pub returns-then-count-eq0-clause-gave : goal.returns-then-count-eq0-clause-gave
returns-then-count-eq0-clause-gave g c = grind (arith, common_steps)
