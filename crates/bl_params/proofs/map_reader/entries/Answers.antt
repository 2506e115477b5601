use Rattle.std.proofs.Common.{arith}
use Rattle.std.proofs.lemmas.Grind.{common_steps}
use Rattle.bl_params.proofs.EntriesRead.{entries_push}
use Rattle.bl_params.proofs.map_reader.entries.Goals as goal

pub loop-i-preserved : goal.loop-i-preserved
loop-i-preserved g c =
    let count = c.loop-i.invariant.count in
    record {
      sound = c.in_ok-run.ensures.1;
      count = rw c.in_ok-push.ensures.items (grind (arith, common_steps));
      are =
          rw c.in_ok-push.ensures.items
          (entries_push _ _ _ _ c.loop-i.invariant.are (rw count c.in_ok-run.ensures.0));
    }
