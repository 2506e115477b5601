use Rattle.std.proofs.Common.{ℕ, List, subst, sym}
use Rattle.std.proofs.lemmas.Result.{IfErr-weaker}
use Rattle.bl_load.specs.Unplaced.{IsUnplaced}
use Rattle.c_records.specs.declared.load_fault.LoadFault.{LoadFault}
use Rattle.c_records.specs.EntryFaults.{IsEntrySound}
use Rattle.c_records.specs.Given.{value_with}
use Rattle.c_abi.specs.Prepare.{AreFilesOf}
use Rattle.c_abi.specs.UnplacedPart.{IsSought, IsNotSought, IsEarlyFault}
use Rattle.c_abi.specs.UnplacedPart.{machine_refuses, entry_refuses}
use Rattle.c_abi.proofs.ResultLemmas.{ok_by_both}
use Rattle.c_abi.proofs.unplaced_part.row_sought.Goals as goal

pub returns-in-Err-clause-fault : goal.returns-in-Err-clause-fault
returns-in-Err-clause-fault g c = λ texts files.
    subst
    (λ (f : LoadFault).
    IsNotSought c.args.machine.now c.args.entry.now texts f)
    (sym c.load_fault_of_given.ensures) (machine_refuses c.in-Err.fault c.in-Err.ensures.fault)

pub returns-clause-sought : goal.returns-clause-sought
returns-clause-sought g c =
    let entry = c.args.entry.now in
    ok_by_both c.row_given.result
    (λ which. (texts : List (List ℕ)) → AreFilesOf entry texts
    → IsUnplaced c.in-Ok.made (value_with entry texts) which)
    (λ which. IsEntrySound entry)
    (IsSought c.args.machine.now entry)
    (λ which is sound. record {
      facts = c.in-Ok.made;
      machine_is = c.in-Ok.ensures.machine;
      machine_sound = c.in-Ok.ensures.sound;
      entry_sound = sound;
      is = is;
    }) c.row_given.ensures.which c.row_given.ensures.sound

pub returns-clause-fault : goal.returns-clause-fault
returns-clause-fault g c =
    let entry = c.args.entry.now in
    IfErr-weaker c.row_given.result
    (λ fault. (texts : List (List ℕ)) → AreFilesOf entry texts
    → IsEarlyFault c.in-Ok.made entry texts fault)
    (λ fault. (texts : List (List ℕ)) → AreFilesOf entry texts
    → IsNotSought c.args.machine.now entry texts fault)
    (λ fault is texts files.
    entry_refuses c.in-Ok.ensures.sound fault record {
      facts = c.in-Ok.made;
      machine_is = c.in-Ok.ensures.machine;
      is = is texts files;
    }) c.row_given.ensures.fault
