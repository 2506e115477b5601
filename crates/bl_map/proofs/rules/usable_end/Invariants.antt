use Rattle.std.proofs.Common.{◌≡◌, drop}
use Rattle.bl_map.specs.NormalMap as normal_map
use Rattle.bl_map.proofs.rules.usable_end.Given as goal

-- the runs so far are none that is looked for
abbrev pub invariant-loop-run : goal.invariant-loop-run
invariant-loop-run l = normal_map.usable_end (drop l.run-index l.runs) l.a ≡ normal_map.usable_end l.runs l.a
