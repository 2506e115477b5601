use Rattle.std.proofs.Common.{◌≡◌, ◌+◌, length, arith, refl, ap, ◌∙◌}
use Rattle.std.proofs.lemmas.List.{length_push}
use Rattle.bl_stage.proofs.TableLemmas.{each_more}
use Rattle.bl_stage.proofs.tables.first_frames.Goals as goal

pub loop-frame-preserved : goal.loop-frame-preserved
loop-frame-preserved g c =
    let loop = c.loop-frame in
    let is = c.in_ok-push.ensures.items in
    let long : length c.push.new.self.items ≡ length loop.frames.items + 1 =
    ap length is ∙ length_push loop.frames.items loop.frame in
    record {
      long = omega (arith, long, loop.invariant.long);
      each =
          λ k h. each_more (λ n. c.args.start + n) loop.frames.items c.push.new.self.items
          loop.frame (length loop.frames.items) is refl loop.invariant.each
          (omega (arith, loop.invariant.long)) k (omega (arith, long, h));
    }
