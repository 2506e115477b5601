-- The numbers of protocols.
use Rattle.std.proofs.Common.{◌≡◌, ℕ, arith}
use Rattle.std.specs.Prelude.{is_some}
use Rattle.std.proofs.lemmas.Bool.Decides.{nat_tests}
use Rattle.bl_plan.specs.Protocols.{protocol_numbered}
use Rattle.c_records.specs.GivenChecks.{is_protocol}

-- a number from 1 to 3 is a protocol's, and no other
pub numbered : (n : ℕ) → is_some (protocol_numbered n) ≡ is_protocol n
unfolding protocol_numbered
numbered n = grind (arith, nat_tests)
