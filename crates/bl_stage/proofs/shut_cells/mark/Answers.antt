use Rattle.std.proofs.Common.{◌∙◌, ◌+◌, ◌<◌, subst, sym, arith}
use Rattle.std.proofs.lemmas.Grind.{common_steps}
use Rattle.bl_stage.proofs.WayLemmas.{meets_more}
use Rattle.bl_stage.proofs.shut_cells.mark.Goals as goal

pub loop-range-preserved : goal.loop-range-preserved
loop-range-preserved g c =
    let shut = c.shut_range.ensures in
    let before = c.loop-range.invariant in
    record {
      wide = shut.kept.wide ∙ before.wide;
      holders = λ j. shut.kept.holders j ∙ before.holders j;
      shut = λ j h.
          rw (shut.shut j (subst (λ n. j < n) (sym before.wide) h), before.shut j h)
          (sym (meets_more c.args.ranges.now c.loop-range.range-index (c.args.base + j) _
          c.loop-range-test.true));
    }

pub returns-clause-shut : goal.returns-clause-shut
returns-clause-shut g c = grind (arith, common_steps)
