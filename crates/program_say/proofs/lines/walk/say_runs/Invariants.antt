use Rattle.std.proofs.Common.{◌≡◌, ◌++◌, take}
use Rattle.std.specs.List.{flat_map}
use Rattle.program_say.specs.WalkLines.{seen_run_line}
use Rattle.program_say.proofs.lines.walk.say_runs.Given as goal

abbrev pub invariant-loop-run : goal.invariant-loop-run
invariant-loop-run g l =
    l.out.items ≡ l.initial.out.items ++ flat_map seen_run_line (take l.run-index l.runs)
