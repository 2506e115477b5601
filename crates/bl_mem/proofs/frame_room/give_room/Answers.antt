use Rattle.std.proofs.Common.{arith}
use Rattle.bl_mem.proofs.SoundLemmas.{opened_none, opened_more}
use Rattle.bl_mem.proofs.frame_room.give_room.Goals as goal

pub loop-at-init : goal.loop-at-init
loop-at-init g c = record {
  from = omega arith;
  within = omega (arith, c.requires.forward);
  opened = opened_none c.args.table.now.items c.args.first c.args.fill;
}

pub loop-at-preserved : goal.loop-at-preserved
loop-at-preserved g c = record {
  from = omega (arith, c.loop-at.invariant.from);
  within = omega arith;
  opened =
      opened_more _ _ _ c.args.first c.loop-at.at c.args.fill _ _ c.loop-at.invariant.from
      c.loop-at.invariant.opened c.open_frame-opened.ensures;
}
