use Rattle.std.proofs.Common.{◌≡◌, take, false}
use Rattle.bl_stage.specs.Ranges.{is_in_ranges}
use Rattle.bl_stage.proofs.scrubbing.is_kept.Given as goal

abbrev pub invariant-loop-range : goal.invariant-loop-range
invariant-loop-range l = is_in_ranges (take l.range-index l.keep) l.at ≡ false
