use Rattle.std.proofs.Common.{◌≡◌, take}
use Rattle.bl_map.proofs.firmware.owned_tables.copy_ranges.Given as goal

-- the ranges so far are copied
abbrev pub invariant-loop-range : goal.invariant-loop-range
invariant-loop-range g l = l.copy.items ≡ take l.range-index l.ranges
