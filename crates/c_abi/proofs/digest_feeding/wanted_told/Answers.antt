use Rattle.std.proofs.Common.{rules}
use Rattle.c_abi.proofs.digest_feeding.wanted_told.Goals as goal

pub returns-in-Some : goal.returns-in-Some
returns-in-Some g c = search rules
