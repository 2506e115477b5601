use Rattle.std.proofs.Common.{length}
use Rattle.program_boots.proofs.explaining.found_entry.+add_modules.Given as goal

abbrev pub decreases-add_modules : goal.decreases-add_modules
decreases-add_modules g l = length l.modules.now
