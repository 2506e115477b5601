use Rattle.std.proofs.Common.{length}
use Rattle.program_say.proofs.lines.part_sources.+say_steps.Given as goal

abbrev pub decreases-say_steps : goal.decreases-say_steps
decreases-say_steps g l = length l.steps.now
