use Rattle.std.proofs.Common.{length}
use Rattle.bl_session.proofs.menu.named_files.+named_file_count.Given as goal

abbrev pub decreases-named_file_count : goal.decreases-named_file_count
decreases-named_file_count g l = length l.entries.now
