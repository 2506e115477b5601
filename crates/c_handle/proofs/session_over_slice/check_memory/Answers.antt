use Rattle.std.proofs.Common.{rules}
use Rattle.c_handle.proofs.session_over_slice.check_memory.Goals as goal

pub returns-then-pool-base-clause-err : goal.returns-then-pool-base-clause-err
returns-then-pool-base-clause-err g c = search rules

pub returns-clause-ok : goal.returns-clause-ok
returns-clause-ok g c = search rules
