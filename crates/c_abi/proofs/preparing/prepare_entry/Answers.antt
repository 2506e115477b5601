use Rattle.std.proofs.Common.{ℕ, List, arith, subst, sym}
use Rattle.c_records.specs.declared.load_fault.LoadFault.{LoadFault}
use Rattle.std.proofs.lemmas.Result.{IfErr-weaker}
use Rattle.bl_load.specs.PlanContents.{handoff_by}
use Rattle.c_abi.specs.Load.{few_places, bad_machine, bad_entry, IsEntryFault}
use Rattle.c_records.specs.EntryFaults.{IsEntrySound}
use Rattle.c_abi.specs.Prepare.{AreFilesOf, IsHandoffOf, IsPrepared, IsNotPrepared}
use Rattle.c_abi.proofs.ResultLemmas.{on_ok, ok_by_both}
use Rattle.c_abi.proofs.preparing.prepare_entry.Goals as goal

pub returns-then-room-lt-MAX_PARTS-clause-fault : goal.returns-then-room-lt-MAX_PARTS-clause-fault
returns-then-room-lt-MAX_PARTS-clause-fault g c = λ texts files. few_places (omega arith)

pub returns-in-Err-clause-fault : goal.returns-in-Err-clause-fault
returns-in-Err-clause-fault g c = λ texts files.
    let many = c.if-room-lt-MAX_PARTS.false in
    subst
    (λ (f : LoadFault).
    IsNotPrepared c.args.machine.now c.args.entry.now texts c.args.room f)
    (sym c.load_fault_of_given.ensures)
    (bad_machine (omega (arith, many)) c.in-Err.fault c.in-Err.ensures.fault)

pub returns-clause-prepared : goal.returns-clause-prepared
returns-clause-prepared g c =
    let many = c.if-room-lt-MAX_PARTS.false in
    let entry = c.args.entry.now in
    ok_by_both c.prepare_given.result
    (λ plan. (texts : List (List ℕ)) → AreFilesOf entry texts
    → IsHandoffOf c.in-Ok.made entry texts (handoff_by plan))
    (λ plan. IsEntrySound entry)
    (λ plan. (texts : List (List ℕ)) → AreFilesOf entry texts
    → IsPrepared c.args.machine.now entry texts c.args.room (handoff_by plan))
    (λ plan handed sound texts files. record {
      has_room = omega (arith, many);
      facts = c.in-Ok.made;
      machine_is = c.in-Ok.ensures.machine;
      machine_sound = c.in-Ok.ensures.sound;
      entry_sound = sound;
      handed = handed texts files;
    }) c.prepare_given.ensures.handed c.prepare_given.ensures.sound

pub returns-clause-room : goal.returns-clause-room
returns-clause-room g c =
    let many = c.if-room-lt-MAX_PARTS.false in on_ok c.prepare_given.result (omega (arith, many))

pub returns-clause-fault : goal.returns-clause-fault
returns-clause-fault g c =
    let many = c.if-room-lt-MAX_PARTS.false in
    let entry = c.args.entry.now in
    let machine = c.args.machine.now in
    IfErr-weaker c.prepare_given.result
    (λ fault. (texts : List (List ℕ)) → AreFilesOf entry texts
    → IsEntryFault c.in-Ok.made entry texts 0 fault)
    (λ fault. (texts : List (List ℕ)) → AreFilesOf entry texts
    → IsNotPrepared machine entry texts c.args.room fault)
    (λ fault is texts files.
    bad_entry (omega (arith, many)) c.in-Ok.ensures.sound (omega arith) fault record {
      facts = c.in-Ok.made;
      machine_is = c.in-Ok.ensures.machine;
      is = is texts files;
    }) c.prepare_given.ensures.fault
