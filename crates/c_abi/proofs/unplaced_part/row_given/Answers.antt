use Rattle.std.proofs.Common.{refl, subst, sym}
use Rattle.bl_load.specs.EntryValue.{EntryValue}
use Rattle.bl_load.specs.Unplaced.{IsUnplaced}
use Rattle.c_abi.specs.UnplacedPart.{IsEarlyFault}
use Rattle.c_abi.proofs.LoadLemmas.{given_value, entry_sound}
use Rattle.c_abi.proofs.UnplacedLemmas.{early_of_given, early_of_prep}
use Rattle.c_abi.proofs.unplaced_part.row_given.Goals as goal

pub returns-in-Err-clause-fault : goal.returns-in-Err-clause-fault
returns-in-Err-clause-fault g c = λ texts files.
    let given = c.args.given.now in
    subst (IsEarlyFault c.args.machine.now given texts) (sym c.load_fault_of_given.ensures)
    (early_of_given c.args.machine.now given texts c.in-Err.fault c.in-Err.ensures.fault)

pub returns-in-Ok-row_of_taken-clause-which : goal.returns-in-Ok-row_of_taken-clause-which
returns-in-Ok-row_of_taken-clause-which g c = λ texts files.
    subst (λ (v : EntryValue). IsUnplaced c.args.machine.now v c.in-Ok-row_of_taken.which)
    (given_value c.args.given.now c.in-Ok.entry texts texts c.in-Ok.ensures.value refl)
    (c.in-Ok-row_of_taken.ensures.which texts files)

pub returns-in-Ok-row_of_taken-clause-sound : goal.returns-in-Ok-row_of_taken-clause-sound
returns-in-Ok-row_of_taken-clause-sound g c =
    entry_sound c.args.given.now c.in-Ok.entry c.in-Ok.ensures.value
    c.in-Ok.ensures.sound c.in-Ok.ensures.limits

pub returns-clause-fault : goal.returns-clause-fault
returns-clause-fault g c = λ texts files.
    let given = c.args.given.now in
    let sound =
    entry_sound given c.in-Ok.entry c.in-Ok.ensures.value c.in-Ok.ensures.sound
    c.in-Ok.ensures.limits in
    subst (IsEarlyFault c.args.machine.now given texts) (sym c.load_fault_of_prep.ensures)
    (early_of_prep c.args.machine.now given texts _ c.in-Err-row_of_taken.fault sound
    (given_value given c.in-Ok.entry texts texts c.in-Ok.ensures.value refl)
    (c.in-Err-row_of_taken.ensures.fault texts files))
