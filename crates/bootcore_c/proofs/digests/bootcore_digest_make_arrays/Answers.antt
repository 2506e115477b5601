use Rattle.std.proofs.Common.{Err, arith, inl, inr, refl, rules}
use Rattle.c_abi.specs.Load.{bad_machine}
use Rattle.c_records.specs.declared.given_fault.GivenFault.TheVariants as given_fault
use Rattle.c_records.specs.declared.load_fault.LoadFault.TheVariants.{NoMemory}
use Rattle.bootcore_c.proofs.digests.bootcore_digest_make_arrays.Goals as goal

-- there was a digest, and no memory to keep it in: memory ran out
pub returns-in-Err-make : goal.returns-in-Err-make
returns-in-Err-make c = (
  Err NoMemory,
  (λ texts files. bad_machine (omega arith) given_fault.NoMemory (inr (inl refl))),
  (c.tell_load_fault.ensures.status, c.in-Err-make.ensures.err, c.tell_load_fault.ensures.refusal),
)

pub returns-in-Ok-make : goal.returns-in-Ok-make
returns-in-Ok-make c = search rules
