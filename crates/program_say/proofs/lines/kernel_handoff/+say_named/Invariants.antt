use Rattle.std.proofs.Common.{length}
use Rattle.program_say.proofs.lines.kernel_handoff.+say_named.Given as goal

abbrev pub decreases-say_named : goal.decreases-say_named
decreases-say_named g l = length l.registers.now
