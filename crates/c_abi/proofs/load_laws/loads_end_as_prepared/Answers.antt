use Rattle.std.proofs.Common.{length, arith}
use Rattle.bl_load.specs.PlanContents.{handover_in}
use Rattle.c_records.specs.Given.{texts_given}
use Rattle.c_abi.proofs.FaultLaws as faults
use Rattle.c_abi.proofs.PrepareLaws.{one_handoff, only_memory, one_refusal, never_loaded}
use Rattle.c_abi.proofs.PrepareLaws.{memory_alone, one_of_two, prepared_above}
use Rattle.c_abi.proofs.load_laws.loads_end_as_prepared.Goals as goal

pub returns-clause-one_handoff : goal.returns-clause-one_handoff
returns-clause-one_handoff c =
    λ machine entry room space base old new prepared loaded p l.
    one_handoff machine entry room space base old new prepared loaded p l

pub returns-clause-else_no_memory : goal.returns-clause-else_no_memory
returns-clause-else_no_memory c =
    λ machine entry room space base old new prepared fault large many above p l.
    memory_alone machine entry base p.handed.handover fault
    (prepared_above machine entry room base prepared p above)
    (only_memory machine entry p.facts p.handed.handover p.machine_is p.machine_sound
    p.entry_sound p.handed.handover_is space base (length old) fault large many l.0)

pub returns-clause-else_outside : goal.returns-clause-else_outside
returns-clause-else_outside c =
    λ machine entry room space base old new prepared fault large many p l.
    one_of_two machine entry base p.handed.handover fault
    (only_memory machine entry p.facts p.handed.handover p.machine_is p.machine_sound
    p.entry_sound p.handed.handover_is space base (length old) fault large many l.0)

pub returns-clause-prepared_too : goal.returns-clause-prepared_too
returns-clause-prepared_too c =
    λ machine entry room space base old new fault loaded many p l.
    let held = handover_in new loaded.protocol loaded.registers loaded.places in
    memory_alone machine entry 0 held fault (λ k d within. omega arith)
    (only_memory machine entry l.facts held l.machine_is l.machine_sound
    l.entry_sound l.handed.handover room 0 machine.size fault (omega arith) many p)

pub returns-clause-one_refusal : goal.returns-clause-one_refusal
returns-clause-one_refusal c = λ machine entry room space base old new r s p l.
    one_refusal machine entry room _ _ space base _ r s p l.0

pub returns-clause-never_loaded : goal.returns-clause-never_loaded
returns-clause-never_loaded c = λ machine entry room space base old new r loaded p l.
    never_loaded machine entry room _ _ space base old new r loaded p l

pub returns-clause-one_fault : goal.returns-clause-one_fault
returns-clause-one_fault c = λ machine entry room base old new f g large no none p l.
    faults.one_fault machine entry (texts_given entry) room base machine.size (length old)
    f g (omega arith) large no none p l.0
