use Rattle.std.proofs.Common.{◌≡◌, ℕ, ◌<◌, ◌+◌, length, get_or}
use Rattle.bl_stage.proofs.tables.first_frames.Given as goal

abbrev pub invariant-loop-frame : goal.invariant-loop-frame
invariant-loop-frame g l = record {
  long : l.start + length l.frames.items ≡ l.frame;
  each : (k : ℕ) → k < length l.frames.items → get_or l.frames.items k 0 ≡ l.start + k;
}
