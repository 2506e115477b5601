use Rattle.std.proofs.Common.{◌≡◌, ◌++◌, take}
use Rattle.program_say.specs.BootAndMapLines.{refused_lines}
use Rattle.program_say.proofs.lines.outcome.say_refusals.Given as goal

abbrev pub invariant-loop-entry : goal.invariant-loop-entry
invariant-loop-entry g l =
    l.out.items ≡ l.initial.out.items ++ refused_lines (take l.entry-index l.refused)
