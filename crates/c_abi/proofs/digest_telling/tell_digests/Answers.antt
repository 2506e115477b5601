use Rattle.std.proofs.Common.{rules}
use Rattle.c_abi.proofs.digest_telling.tell_digests.Goals as goal

pub returns : goal.returns
returns c = search rules
