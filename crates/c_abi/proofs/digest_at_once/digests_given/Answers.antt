use Rattle.std.proofs.Common.{arith, subst, sym}
use Rattle.bl_load.specs.HandoffFacts.{max_parts}
use Rattle.c_records.specs.Given.{texts_given}
use Rattle.c_abi.specs.Load.{bad_machine}
use Rattle.c_abi.specs.Prepare.{IsNotPrepared}
use Rattle.c_records.specs.declared.load_fault.LoadFault.{LoadFault}
use Rattle.c_abi.proofs.DigestLemmas.{given_digests_end}
use Rattle.c_abi.proofs.digest_at_once.digests_given.Goals as goal

pub returns-in-Err : goal.returns-in-Err
returns-in-Err g c =
    let entry = c.args.entry.now in
    subst
    (λ (f : LoadFault).
    IsNotPrepared c.args.machine.now entry (texts_given entry) max_parts f)
    (sym c.load_fault_of_given.ensures)
    (bad_machine (omega arith) c.in-Err.fault c.in-Err.ensures.fault)

pub returns : goal.returns
returns g c =
    given_digests_end c.args.machine.now c.args.entry.now c.in-Ok.made
    c.in-Ok.ensures.machine c.in-Ok.ensures.sound c.digests_on.result
    c.digests_on.ensures.digests c.digests_on.ensures.sound c.digests_on.ensures.fault
