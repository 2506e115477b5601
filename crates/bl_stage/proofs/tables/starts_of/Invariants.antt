use Rattle.std.proofs.Common.{◌≡◌, ℕ, ◌<◌, take, length, get_or}
use Rattle.bl_stage.specs.Staged.{frames_before}
use Rattle.bl_map.specs.PoolFrames.{frames_for}
use Rattle.bl_stage.proofs.tables.starts_of.Given as goal

abbrev pub invariant-loop-size : goal.invariant-loop-size
invariant-loop-size g l = record {
  all : l.all ≡ frames_for (take l.size-index l.sizes);
  len : length l.starts.items ≡ l.size-index;
  each : (file : ℕ) → file < l.size-index → get_or l.starts.items file 0 ≡ frames_before l.sizes file;
}
