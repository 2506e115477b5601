use Rattle.std.proofs.Common.{All, take}
use Rattle.bl_map.specs.MachineFacts.{MissesPool}
use Rattle.bl_map.proofs.firmware.checks.all_miss_pool.Given as goal

-- the ranges so far leave the pool alone
abbrev pub invariant-loop-range : goal.invariant-loop-range
invariant-loop-range l = All (MissesPool l.pool) (take l.range-index l.avoided)
