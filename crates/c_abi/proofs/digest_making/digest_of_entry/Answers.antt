use Rattle.std.proofs.Common.{refl, rules, subst, sym}
use Rattle.c_abi.specs.Load.{IsEntryFault}
use Rattle.c_abi.proofs.DigestLemmas.{is_digest_on}
use Rattle.c_abi.proofs.LoadLemmas.{given_value, of_prepared_is}
use Rattle.c_abi.proofs.PlanLemmas.{can_be}
use Rattle.c_abi.proofs.digest_making.digest_of_entry.Goals as goal

pub returns-in-Err-clause-fault : goal.returns-in-Err-clause-fault
returns-in-Err-clause-fault g c = λ texts files.
    let row = c.args.row.now in
    subst (IsEntryFault c.args.machine.now row texts 0) (sym c.load_fault_of_prep.ensures)
    (of_prepared_is c.args.machine.now row texts 0 _ c.in-Err.fault c.requires.sound
    (given_value row c.args.entry.now texts texts c.requires.value refl)
    (c.in-Err.ensures.fault texts files))

pub begin-requires : goal.begin-requires
begin-requires g c =
    can_be c.args.machine.now c.args.row.now c.args.entry.now c.in-Ok.plan
    c.in-Ok.ensures.loadable

pub returns-in-Ok-begin-clause-begun : goal.returns-in-Ok-begin-clause-begun
returns-in-Ok-begin-clause-begun g c =
    let begun = c.in-Ok-begin.ensures in
    is_digest_on c.args.machine.now c.args.row.now c.args.entry.now c.in-Ok.plan
    c.in-Ok.ensures.loadable c.in-Ok-begin.digest begun.begun c.requires.value
    c.in-Ok.ensures.lean c.in-Ok.ensures.origins c.in-Ok.ensures.handover begun.handover

pub returns-clause-fault : goal.returns-clause-fault
returns-clause-fault g c = search rules
