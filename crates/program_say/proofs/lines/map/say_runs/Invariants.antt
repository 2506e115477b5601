use Rattle.std.proofs.Common.{◌≡◌, ◌++◌, take}
use Rattle.std.specs.List.{flat_map}
use Rattle.program_say.specs.BootAndMapLines.{run_line}
use Rattle.program_say.proofs.lines.map.say_runs.Given as goal

abbrev pub invariant-loop-run : goal.invariant-loop-run
invariant-loop-run g l =
    l.out.items ≡ l.initial.out.items ++ flat_map run_line (take l.run-index l.runs)
