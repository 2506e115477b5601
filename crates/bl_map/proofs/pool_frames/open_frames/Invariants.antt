use Rattle.std.proofs.Common.{◌≡◌, ◌≤◌}
use Rattle.bl_map.specs.PoolFrames.{frames_in, open_among}
use Rattle.bl_map.proofs.RoomLemmas.{AreBehind}
use Rattle.bl_map.proofs.pool_frames.open_frames.Given as goal

-- the frames before the next one are counted; those from it on meet no range so far
abbrev pub invariant-loop-range : goal.invariant-loop-range
invariant-loop-range l = record {
  within : l.next ≤ frames_in l.pool;
  most : l.open ≤ l.next;
  counted : l.open ≡ open_among l.ranges l.pool.start l.next;
  behind : AreBehind l.pool l.ranges l.range-index l.next;
}
