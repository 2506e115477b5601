use Rattle.std.proofs.Common.{refl, subst, sym}
use Rattle.c_abi.specs.Load.{IsEntryFault}
use Rattle.c_abi.proofs.LoadLemmas.{given_value, of_prepared_is}
use Rattle.c_abi.proofs.PlanLemmas.{can_be, is_plan_on, small_files}
use Rattle.c_abi.proofs.planning.plan_of_entry.Goals as goal

pub returns-in-Err-clause-fault : goal.returns-in-Err-clause-fault
returns-in-Err-clause-fault g c = λ texts files.
    let row = c.args.row.now in
    subst (IsEntryFault c.args.machine.now row texts 0) (sym c.load_fault_of_prep.ensures)
    (of_prepared_is c.args.machine.now row texts 0 _ c.in-Err.fault c.requires.sound
    (given_value row c.args.entry.now texts texts c.requires.value refl)
    (c.in-Err.ensures.fault texts files))

pub steps-requires : goal.steps-requires
steps-requires g c =
    can_be c.args.machine.now c.args.row.now c.args.entry.now c.in-Ok.plan
    c.in-Ok.ensures.loadable

pub returns-in-Ok-steps-clause-planned : goal.returns-in-Ok-steps-clause-planned
returns-in-Ok-steps-clause-planned g c =
    let told = c.in-Ok-steps.ensures in
    is_plan_on c.args.machine.now c.args.row.now c.args.entry.now c.in-Ok.plan
    c.in-Ok.ensures.loadable c.in-Ok-steps.told told.sound c.requires c.size-size.ensures.facts
    c.in-Ok.ensures.lean c.in-Ok.ensures.origins c.in-Ok.ensures.handover told.carried_out
    told.steps told.own told.ascending

pub returns-in-Ok-steps-clause-files : goal.returns-in-Ok-steps-clause-files
returns-in-Ok-steps-clause-files g c =
    small_files c.args.machine.now c.args.row.now c.args.entry.now c.in-Ok.plan
    c.in-Ok.ensures.loadable c.in-Ok-steps.told c.in-Ok-steps.ensures.sound
    c.requires.limits c.requires.count
