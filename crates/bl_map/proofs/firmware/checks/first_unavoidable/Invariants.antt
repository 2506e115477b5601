use Rattle.std.proofs.Common.{All, take}
use Rattle.bl_map.specs.MachineFacts.{IsAvoidable}
use Rattle.bl_map.proofs.firmware.checks.first_unavoidable.Given as goal

-- the ranges so far can be avoided
abbrev pub invariant-loop-i : goal.invariant-loop-i
invariant-loop-i l = All IsAvoidable (take l.i l.avoided)
