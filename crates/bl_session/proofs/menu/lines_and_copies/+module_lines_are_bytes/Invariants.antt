use Rattle.std.proofs.Common.{length}
use Rattle.bl_session.proofs.menu.lines_and_copies.+module_lines_are_bytes.Given as goal

abbrev pub decreases-module_lines_are_bytes : goal.decreases-module_lines_are_bytes
decreases-module_lines_are_bytes g l = length l.modules.now
