use Rattle.std.proofs.Common.{◌≡◌, ◌<◌, ◌^◌, take}
use Rattle.bl_map.specs.PoolFrames.{frames_for}
use Rattle.bl_map.proofs.pool_frames.frames_for.Given as goal

abbrev pub invariant-loop-size : goal.invariant-loop-size
invariant-loop-size l = record {
  all : l.all ≡ frames_for (take l.size-index l.sizes);
  fits : l.all < 2 ^ 64;
}
