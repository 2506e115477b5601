use Rattle.std.proofs.Common.{rules}
use Rattle.c_handle.proofs.handle.Handle.free.Goals as goal

pub returns : goal.returns
returns c = search rules
