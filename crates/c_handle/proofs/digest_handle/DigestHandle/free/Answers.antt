use Rattle.std.proofs.Common.{rules}
use Rattle.c_handle.proofs.digest_handle.DigestHandle.free.Goals as goal

pub returns : goal.returns
returns c = search rules
