use Rattle.std.proofs.Common.{All, take}
use Rattle.bl_map.specs.Faults.{HasAllowedEnd}
use Rattle.bl_map.proofs.rules.first_high.Given as goal

-- the regions so far are low
abbrev pub invariant-loop-i : goal.invariant-loop-i
invariant-loop-i l = All HasAllowedEnd (take l.i l.regions)
