use Rattle.std.proofs.Common.{◌+◌, length, arith, ap, ◌∙◌}
use Rattle.std.proofs.lemmas.List.{length_push}
use Rattle.std.proofs.lemmas.List.Sums.{sum_by_more, sum_by_more_le}
use Rattle.bl_map.specs.PoolFrames.{frames_of}
use Rattle.bl_stage.specs.Staged.{frames_before}
use Rattle.bl_stage.proofs.TableLemmas.{each_more}
use Rattle.bl_stage.proofs.tables.starts_of.Goals as goal

pub overflow_add-all : goal.overflow_add-all
overflow_add-all g c =
    let sizes = c.args.sizes.now in
    let within = sum_by_more_le frames_of sizes c.loop-size.size-index 0 c.loop-size-test.true in
    record {
      fits =
          omega (
            arith,
            within,
            c.loop-size.invariant.all,
            c.frames_of-all.ensures,
            c.requires,
          );
    }

pub loop-size-preserved : goal.loop-size-preserved
loop-size-preserved g c =
    let loop = c.loop-size in
    let sizes = c.args.sizes.now in
    let is = c.in_ok-push.ensures.items in
    let more = sum_by_more frames_of sizes loop.size-index 0 c.loop-size-test.true in
    record {
      all = omega (arith, more, loop.invariant.all, c.frames_of-all.ensures);
      len =
          ap length is ∙ length_push loop.starts.items loop.all
          ∙ ap (λ n. n + 1) loop.invariant.len;
      each =
          each_more (frames_before sizes) loop.starts.items c.push.new.self.items loop.all
          loop.size-index is loop.invariant.len loop.invariant.each loop.invariant.all;
    }
