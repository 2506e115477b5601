use Rattle.std.proofs.Common.{subst, sym}
use Rattle.c_abi.specs.Load.{IsEntryFault}
use Rattle.c_abi.proofs.LoadLemmas.{entry_sound, of_given_is, taken}
use Rattle.c_abi.proofs.ResultLemmas.{on_ok}
use Rattle.c_abi.proofs.planning.plan_given.Goals as goal

pub plan_of_entry-requires : goal.plan_of_entry-requires
plan_of_entry-requires g c =
    taken c.args.row.now c.in-Ok.entry c.in-Ok.ensures.value c.in-Ok.ensures.count
    c.in-Ok.ensures.limits c.in-Ok.ensures.sound

pub returns-in-Ok-clause-sound : goal.returns-in-Ok-clause-sound
returns-in-Ok-clause-sound g c =
    on_ok c.plan_of_entry.result
    (entry_sound c.args.row.now c.in-Ok.entry c.in-Ok.ensures.value c.in-Ok.ensures.sound
    c.in-Ok.ensures.limits)

pub returns-in-Err-clause-fault : goal.returns-in-Err-clause-fault
returns-in-Err-clause-fault g c = λ texts files.
    let row = c.args.row.now in
    subst (IsEntryFault c.args.machine.now row texts 0) (sym c.load_fault_of_given.ensures)
    (of_given_is c.args.machine.now row texts 0 c.in-Err.fault c.in-Err.ensures.fault)
