use Rattle.std.proofs.Common.{arith, subst, sym}
use Rattle.bl_load.specs.HandoffFacts.{max_parts}
use Rattle.c_abi.specs.Load.{bad_machine}
use Rattle.c_abi.specs.Prepare.{IsNotPrepared}
use Rattle.c_records.specs.declared.load_fault.LoadFault.{LoadFault}
use Rattle.c_abi.proofs.DigestLemmas.{given_digest_end}
use Rattle.c_abi.proofs.digest_making.digest_given.Goals as goal

pub returns-in-Err : goal.returns-in-Err
returns-in-Err g c = λ texts files.
    subst
    (λ (f : LoadFault).
    IsNotPrepared c.args.machine.now c.args.entry.now texts max_parts f)
    (sym c.load_fault_of_given.ensures)
    (bad_machine (omega arith) c.in-Err.fault c.in-Err.ensures.fault)

pub returns : goal.returns
returns g c =
    given_digest_end c.args.machine.now c.args.entry.now c.in-Ok.made
    c.in-Ok.ensures.machine c.in-Ok.ensures.sound c.digest_on.result c.digest_on.ensures.begun
    c.digest_on.ensures.sound c.digest_on.ensures.fault
