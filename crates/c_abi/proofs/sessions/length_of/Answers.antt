use Rattle.std.proofs.Common.{rules}
use Rattle.c_abi.proofs.sessions.length_of.Goals as goal

pub returns-then-file : goal.returns-then-file
returns-then-file c = search rules
