use Rattle.std.proofs.Common.{refl, subst, sym}
use Rattle.bl_load.specs.EntryValue.{EntryValue}
use Rattle.bl_load.specs.Parts.{IsHandover}
use Rattle.bl_load.specs.PlanContents.{handover_by}
use Rattle.c_abi.specs.Load.{IsEntryFault}
use Rattle.c_abi.proofs.LoadLemmas.{given_value, entry_sound, of_given_is, of_prepared_is}
use Rattle.c_abi.proofs.PlanLemmas.{few_parts}
use Rattle.c_abi.proofs.PrepareLemmas.{plan_says}
use Rattle.c_abi.proofs.preparing.prepare_given.Goals as goal

pub returns-in-Err-clause-fault : goal.returns-in-Err-clause-fault
returns-in-Err-clause-fault g c = λ texts files.
    let row = c.args.row.now in
    subst (IsEntryFault c.args.machine.now row texts 0) (sym c.load_fault_of_given.ensures)
    (of_given_is c.args.machine.now row texts 0 c.in-Err.fault c.in-Err.ensures.fault)

pub returns-in-Ok-prepare_row-clause-handed : goal.returns-in-Ok-prepare_row-clause-handed
returns-in-Ok-prepare_row-clause-handed g c = λ texts files.
    let row = c.args.row.now in
    let plan = c.in-Ok-prepare_row.plan in
    record {
      handover = handover_by texts plan;
      handover_is =
          subst
          (λ (v : EntryValue). IsHandover c.args.machine.now v (handover_by texts plan))
          (given_value row c.in-Ok.entry texts texts c.in-Ok.ensures.value refl)
          (c.in-Ok-prepare_row.ensures.handover texts files);
      handoff_is =
          plan_says texts c.args.machine.now.size plan
          (c.in-Ok-prepare_row.ensures.loadable texts files);
    }

pub returns-in-Ok-prepare_row-clause-sound : goal.returns-in-Ok-prepare_row-clause-sound
returns-in-Ok-prepare_row-clause-sound g c =
    entry_sound c.args.row.now c.in-Ok.entry c.in-Ok.ensures.value
    c.in-Ok.ensures.sound c.in-Ok.ensures.limits

pub returns-in-Ok-prepare_row-clause-few : goal.returns-in-Ok-prepare_row-clause-few
returns-in-Ok-prepare_row-clause-few g c =
    few_parts c.args.machine.now c.args.row.now c.in-Ok.entry c.in-Ok-prepare_row.plan
    c.in-Ok-prepare_row.ensures.loadable

pub returns-clause-fault : goal.returns-clause-fault
returns-clause-fault g c = λ texts files.
    let row = c.args.row.now in
    let sound =
    entry_sound row c.in-Ok.entry c.in-Ok.ensures.value c.in-Ok.ensures.sound
    c.in-Ok.ensures.limits in
    subst (IsEntryFault c.args.machine.now row texts 0) (sym c.load_fault_of_prep.ensures)
    (of_prepared_is c.args.machine.now row texts 0 _ c.in-Err-prepare_row.fault sound
    (given_value row c.in-Ok.entry texts texts c.in-Ok.ensures.value refl)
    (c.in-Err-prepare_row.ensures.fault texts files))
