use Rattle.std.proofs.Common.{length}
use Rattle.program_desc.proofs.index_of_name.+file_index.Given as goal

abbrev pub decreases-file_index : goal.decreases-file_index
decreases-file_index l = length l.names.now
