use Rattle.std.proofs.Common.{length}
use Rattle.bl_session.proofs.menu.fault.+each_is_within_limits.Given as goal

abbrev pub decreases-each_is_within_limits : goal.decreases-each_is_within_limits
decreases-each_is_within_limits g l = length l.entries.now
