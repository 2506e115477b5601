use Rattle.std.proofs.Common.{refl, subst, sym}
use Rattle.c_records.specs.Given.{texts_given}
use Rattle.c_abi.specs.Load.{IsEntryFault}
use Rattle.c_abi.proofs.LoadLemmas.{entry_sound, of_given_is, taken}
use Rattle.c_abi.proofs.ResultLemmas.{on_ok}
use Rattle.c_abi.proofs.loading.load_given.Goals as goal

pub returns-in-Err-clause-handed : goal.returns-in-Err-clause-handed
returns-in-Err-clause-handed g c = tt

pub returns-in-Err-clause-sound : goal.returns-in-Err-clause-sound
returns-in-Err-clause-sound g c = tt

pub returns-in-Err-clause-fault : goal.returns-in-Err-clause-fault
returns-in-Err-clause-fault g c =
    let facts = c.args.machine.now in
    let row = c.args.row.now in
    subst (IsEntryFault facts row (texts_given row) c.args.base) (sym c.load_fault_of_given.ensures)
    (of_given_is facts row (texts_given row) c.args.base c.in-Err.fault c.in-Err.ensures.fault)

pub returns-in-Err-clause-unchanged : goal.returns-in-Err-clause-unchanged
returns-in-Err-clause-unchanged g c = refl

pub load_of_entry-requires-clause-size : goal.load_of_entry-requires-clause-size
load_of_entry-requires-clause-size g c = c.requires

pub load_of_entry-requires-clause-taken : goal.load_of_entry-requires-clause-taken
load_of_entry-requires-clause-taken g c =
    taken c.args.row.now c.in-Ok.entry c.in-Ok.ensures.value c.in-Ok.ensures.count
    c.in-Ok.ensures.limits c.in-Ok.ensures.sound

pub returns-in-Ok-clause-sound : goal.returns-in-Ok-clause-sound
returns-in-Ok-clause-sound g c =
    on_ok c.load_of_entry.result
    (entry_sound c.args.row.now c.in-Ok.entry c.in-Ok.ensures.value c.in-Ok.ensures.sound
    c.in-Ok.ensures.limits)
