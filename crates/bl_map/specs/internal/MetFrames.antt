-- What only the code keeps: no definition that a reader must believe.
use Rattle.std.specs.Prelude.{◌≡◌, ℕ, ◌+◌, ◌*◌, ◌<◌, ◌≤◌, true, false}
use Rattle.std.specs.declared.ops.Range.{Range}
use Rattle.bl_map.specs.Limits.{frame_size}
use Rattle.bl_map.specs.PoolFrames.{frames_in, misses_frame}

-- of a pool's frames a range meets those with these numbers, from 0 on; each before them ends
-- before the range begins
pub record AreFramesMet (pool range met : Range ℕ) : Type 0 where
  pub forward : met.start ≤ met.end
  pub within : met.end ≤ frames_in pool
  pub before : (i : ℕ) → i < met.start → pool.start + frame_size * i + frame_size ≤ range.start
  pub inside : (i : ℕ) → met.start ≤ i → i < met.end
      → misses_frame range (pool.start + frame_size * i) ≡ false
  pub behind : (i : ℕ) → met.end ≤ i → i < frames_in pool
      → misses_frame range (pool.start + frame_size * i) ≡ true
