use Rattle.std.proofs.Common.{ℕ, List, arith, subst, sym}
use Rattle.std.proofs.lemmas.Result.{IfErr-weaker}
use Rattle.c_records.specs.declared.load_fault.LoadFault.{LoadFault}
use Rattle.bl_load.specs.HandoffFacts.{max_parts}
use Rattle.c_abi.specs.Load.{bad_machine, bad_entry, IsEntryFault}
use Rattle.c_records.specs.EntryFaults.{IsEntrySound}
use Rattle.c_abi.specs.Plan.{IsPlanned}
use Rattle.c_abi.specs.Prepare.{AreFilesOf, IsNotPrepared}
use Rattle.c_abi.specs.internal.Plans.{IsPlanOn, plan_facts}
use Rattle.c_abi.proofs.ResultLemmas.{ok_by_both}
use Rattle.c_abi.proofs.planning.plan_entry.Goals as goal

pub returns-in-Err-clause-fault : goal.returns-in-Err-clause-fault
returns-in-Err-clause-fault g c = λ texts files.
    subst
    (λ (f : LoadFault).
    IsNotPrepared c.args.machine.now c.args.entry.now texts max_parts f)
    (sym c.load_fault_of_given.ensures)
    (bad_machine (omega arith) c.in-Err.fault c.in-Err.ensures.fault)

pub returns-clause-planned : goal.returns-clause-planned
returns-clause-planned g c =
    let entry = c.args.entry.now in
    ok_by_both c.plan_given.result
    (λ made. IsPlanOn c.in-Ok.made entry (plan_facts made))
    (λ made. IsEntrySound entry)
    (λ made. IsPlanned c.args.machine.now entry (plan_facts made))
    (λ made plan sound. record {
      facts = c.in-Ok.made;
      machine_is = c.in-Ok.ensures.machine;
      machine_sound = c.in-Ok.ensures.sound;
      entry_sound = sound;
      is_plan = plan.is_plan;
      sound = plan.sound;
      ascending = plan.ascending;
      few_places = plan.few_places;
      few_steps = plan.few_steps;
      few_own = plan.few_own;
    }) c.plan_given.ensures.planned c.plan_given.ensures.sound

pub returns-clause-fault : goal.returns-clause-fault
returns-clause-fault g c =
    let entry = c.args.entry.now in
    let machine = c.args.machine.now in
    IfErr-weaker c.plan_given.result
    (λ fault. (texts : List (List ℕ)) → AreFilesOf entry texts
    → IsEntryFault c.in-Ok.made entry texts 0 fault)
    (λ fault. (texts : List (List ℕ)) → AreFilesOf entry texts
    → IsNotPrepared machine entry texts max_parts fault)
    (λ fault is texts files.
    bad_entry (omega arith) c.in-Ok.ensures.sound (omega arith) fault record {
      facts = c.in-Ok.made;
      machine_is = c.in-Ok.ensures.machine;
      is = is texts files;
    }) c.plan_given.ensures.fault
