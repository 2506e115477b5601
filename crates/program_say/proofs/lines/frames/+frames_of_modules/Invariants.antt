use Rattle.std.proofs.Common.{length}
use Rattle.program_say.proofs.lines.frames.+frames_of_modules.Given as goal

abbrev pub decreases-frames_of_modules : goal.decreases-frames_of_modules
decreases-frames_of_modules g l = length l.modules.now
