-- An entry has one plan.
use Rattle.std.proofs.Common.{◌≡◌, ℕ, List, ap, sym, subst, ◌∙◌}
use Rattle.bl_map.specs.MachineFacts.{MachineFacts}
use Rattle.bl_load.specs.EntryValue.{EntryValue}
use Rattle.bl_load.specs.FilesByLengths.{HaveKernelAndLengths}
use Rattle.bl_load.specs.HandoffFacts.{HandoffFacts}
use Rattle.bl_load.specs.Handover.{Handover}
use Rattle.bl_load.specs.Origins.{PartOrigin}
use Rattle.bl_load.specs.StepsByOrigins.{steps_by, own_by}
use Rattle.bl_load.specs.declared.step.Step.{Step}
use Rattle.bl_load.proofs.HandoverLaws.{one_handover}
use Rattle.bl_load.proofs.StepOriginLemmas.{one_origins}
use Rattle.bl_image.specs.ImageHandover.{handoff_of}
use Rattle.c_records.specs.declared.given_records.EntryRecord.{EntryRecord}
use Rattle.c_records.specs.declared.given_records.MachineRecord.{MachineRecord}
use Rattle.c_records.specs.Given.{lengths_beside, value_with}
use Rattle.c_records.specs.Machines.{IsMachineGiven}
use Rattle.c_abi.specs.Plan.{PlanFacts, IsPlanOf, IsPlanned, AreKnownAlike}
use Rattle.c_abi.specs.Prepare.{AreFilesOf}
use Rattle.c_abi.proofs.MachineLaws.{one_machine}
use Rattle.c_abi.proofs.PlanLemmas.{some_files, have_some}

plan_with : HandoffFacts → List Step → List ℕ → PlanFacts
plan_with handoff steps own = record { handoff = handoff; steps = steps; own = own }

one_plan_of : (facts : MachineFacts) (value : EntryValue) (plan again : PlanFacts)
    → IsPlanOf facts value plan → IsPlanOf facts value again → plan ≡ again
unfolding plan_with
one_plan_of facts value plan again a b =
    let parts : a.is.parts ≡ b.is.parts =
    one_origins facts value a.is.parts b.is.parts a.is.come_from b.is.come_from in
    let steps : plan.steps ≡ again.steps =
    a.is.steps_are ∙ ap (λ (ps : List PartOrigin). steps_by 0 ps) parts ∙ sym b.is.steps_are in
    let own : plan.own ≡ again.own =
    a.is.own_is ∙ ap (λ (ps : List PartOrigin). own_by ps) parts ∙ sym b.is.own_is in
    let handoff : plan.handoff ≡ again.handoff =
    a.handoff_is
    ∙ ap (λ (h : Handover). handoff_of h)
    (one_handover facts value a.loads.handover b.loads.handover a.loads.handed b.loads.handed)
    ∙ sym b.handoff_is in
    ap (λ (h : HandoffFacts). plan_with h plan.steps plan.own) handoff
    ∙ ap (λ (ss : List Step). plan_with again.handoff ss plan.own) steps
    ∙ ap (λ (bytes : List ℕ). plan_with again.handoff again.steps bytes) own

-- ---- what is known of an entry decides

module _ (entry other : EntryRecord) (alike : AreKnownAlike entry other)
    (texts : List (List ℕ)) where
  pub same_value : value_with entry texts ≡ value_with other texts
  same_value =
      ap (λ (v : EntryValue). let w : EntryValue = record v { files = texts } in w) alike.value

  pub files_of_other : AreFilesOf entry texts → AreFilesOf other texts
  files_of_other files =
      subst (λ (kernel : List ℕ). HaveKernelAndLengths kernel (lengths_beside other) texts)
      alike.kernel
      (subst (λ (lengths : List ℕ). HaveKernelAndLengths entry.kernel.bytes.now lengths texts)
      alike.lengths files)

pub one_plan : (machine another : MachineRecord) (entry other : EntryRecord)
    (facts : MachineFacts) (plan again : PlanFacts) → IsMachineGiven machine facts
    → IsMachineGiven another facts → AreKnownAlike entry other → IsPlanned machine entry plan
    → IsPlanned another other again → plan ≡ again
one_plan machine another entry other facts plan again m n alike a b =
    let texts = some_files entry in
    let files = have_some entry in
    let first : IsPlanOf facts (value_with entry texts) plan =
    subst (λ (f : MachineFacts). IsPlanOf f (value_with entry texts) plan)
    (one_machine machine a.facts facts a.machine_is m) (a.is_plan texts files) in
    let second : IsPlanOf facts (value_with other texts) again =
    subst (λ (f : MachineFacts). IsPlanOf f (value_with other texts) again)
    (one_machine another b.facts facts b.machine_is n)
    (b.is_plan texts (files_of_other entry other alike texts files)) in
    one_plan_of facts (value_with entry texts) plan again first
    (subst (λ (v : EntryValue). IsPlanOf facts v again)
    (sym (same_value entry other alike texts)) second)
