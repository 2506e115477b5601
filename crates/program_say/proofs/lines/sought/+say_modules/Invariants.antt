use Rattle.std.proofs.Common.{length}
use Rattle.program_say.proofs.lines.sought.+say_modules.Given as goal

abbrev pub decreases-say_modules : goal.decreases-say_modules
decreases-say_modules g l = length l.modules.now
