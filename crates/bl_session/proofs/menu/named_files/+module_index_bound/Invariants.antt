use Rattle.std.proofs.Common.{length}
use Rattle.bl_session.proofs.menu.named_files.+module_index_bound.Given as goal

abbrev pub decreases-module_index_bound : goal.decreases-module_index_bound
decreases-module_index_bound g l = length l.modules.now
