use Rattle.std.proofs.Common.{rules}
use Rattle.c_abi.proofs.unplaced_part.row_told.Goals as goal

pub returns-in-Highest : goal.returns-in-Highest
returns-in-Highest c = search rules
