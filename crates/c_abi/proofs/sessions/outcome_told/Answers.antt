use Rattle.std.proofs.Common.{rules}
use Rattle.c_abi.proofs.sessions.outcome_told.Goals as goal

pub returns-in-None : goal.returns-in-None
returns-in-None g c = search rules
