use Rattle.std.proofs.Common.{Err, inl, inr, refl}
use Rattle.c_records.specs.declared.given_fault.GivenFault.TheVariants.{NoMemory}
use Rattle.c_abi.specs.Sessions.{of_machine}
use Rattle.bootcore_c.proofs.sessions.bootcore_session_make_arrays.Goals as goal

-- there was a session, and no memory to keep it in: memory ran out
pub returns-in-Err-make : goal.returns-in-Err-make
returns-in-Err-make c = (
  Err NoMemory,
  of_machine NoMemory (inr (inl refl)),
  (c.given_status.ensures, c.in-Err-make.ensures.err),
)
