-- What comes of an entry whose load C has planned: the steps that load it, or why it is not loaded.
-- Of its files the kernel's bytes are known, and of the others the lengths. Own.
use Rattle.std.specs.Prelude.{◌≡◌, ◌≤◌, ℕ, List, ◌∷◌, length, All, AllPairs, Result, Ok, Err}
use Rattle.bl_map.specs.MachineFacts.{MachineFacts}
use Rattle.bl_load.specs.EntryValue.{EntryValue}
use Rattle.bl_load.specs.HandoffFacts.{HandoffFacts, max_parts}
use Rattle.bl_load.specs.LeanPlans.{AreLeanOrigins}
use Rattle.bl_load.specs.LoadedBySteps.{LoadsEntry}
use Rattle.bl_load.specs.Origins.{PartOrigin, AreOrigins}
use Rattle.bl_load.specs.PlanLimits.{max_steps, max_own}
use Rattle.bl_load.specs.Steps.{IsStep, StepsAscend}
use Rattle.bl_load.specs.StepsByOrigins.{steps_by, own_by}
use Rattle.bl_load.specs.declared.step.Step.{Step}
use Rattle.bl_image.specs.ImageHandover.{handoff_of}
use Rattle.c_records.specs.declared.given_records.MachineRecord.{MachineRecord}
use Rattle.c_records.specs.declared.given_records.EntryRecord.{EntryRecord}
use Rattle.c_records.specs.declared.load_fault.LoadFault.{LoadFault}
use Rattle.c_records.specs.Given.{entry_without_files, lengths_beside, value_with}
use Rattle.c_records.specs.EntryFaults.{IsEntrySound}
use Rattle.c_records.specs.Machines.{IsMachineGiven, IsMachineSound}
use Rattle.c_abi.specs.Prepare.{AreFilesOf, IsNotPrepared}

-- the lengths of all files of an entry
abbrev pub file_lengths : EntryRecord → List ℕ
file_lengths entry = length entry.kernel.bytes.now ∷ lengths_beside entry

-- a plan: the handoff, the steps, and the bytes that it holds itself
pub record PlanFacts : Type 0 where
  pub handoff : HandoffFacts
  pub steps : List Step
  pub own : List ℕ

-- these steps and a plan's own bytes are those of an entry's parts, each of which lies and comes
-- from where the rules say: so facts and value decide both. The own bytes are made, and no file's
-- but the setup header of a Linux kernel
pub record HasStepsOf (facts : MachineFacts) (value : EntryValue) (steps : List Step)
    (own : List ℕ) : Type 0 where
  pub parts : List PartOrigin
  pub come_from : AreOrigins facts value parts
  pub lean : AreLeanOrigins parts
  pub steps_are : steps ≡ steps_by 0 parts
  pub own_is : own ≡ own_by parts

-- it is the plan of an entry of this value: its steps load the entry, and its handoff is that of
-- what they write
pub record IsPlanOf (facts : MachineFacts) (value : EntryValue) (plan : PlanFacts) : Type 0 where
  pub is : HasStepsOf facts value plan.steps plan.own
  pub loads : LoadsEntry facts value plan.steps plan.own
  pub handoff_is : plan.handoff ≡ handoff_of loads.handover

-- on the machine that is given, where neither machine nor entry has a misuse, it is the plan for
-- all files of the entry, and no larger than any may be. Each step can be carried out, and none
-- begins before the one before it has ended
pub record IsPlanned (machine : MachineRecord) (entry : EntryRecord) (plan : PlanFacts) :
    Type 0 where
  pub facts : MachineFacts
  pub machine_is : IsMachineGiven machine facts
  pub machine_sound : IsMachineSound machine
  pub entry_sound : IsEntrySound entry
  pub is_plan :
      (texts : List (List ℕ)) → AreFilesOf entry texts
      → IsPlanOf facts (value_with entry texts) plan
  pub sound : All (IsStep (file_lengths entry) (length plan.own) facts.size) plan.steps
  pub ascending : AllPairs StepsAscend plan.steps
  pub few_places : length plan.handoff.places ≤ max_parts
  pub few_steps : length plan.steps ≤ max_steps
  pub few_own : length plan.own ≤ max_own

-- how a call ends, whatever room there is: a fault is that of a preparation with room for the
-- places, for all files of the entry
abbrev pub IsGivenPlanEnd : MachineRecord → EntryRecord → Result PlanFacts LoadFault → Type 0
IsGivenPlanEnd machine entry (Ok plan) = IsPlanned machine entry plan
IsGivenPlanEnd machine entry (Err fault) =
    (texts : List (List ℕ)) → AreFilesOf entry texts
    → IsNotPrepared machine entry texts max_parts fault

-- two entries are one but for the bytes of the files beside the kernel
pub record AreKnownAlike (entry other : EntryRecord) : Type 0 where
  pub value : entry_without_files entry ≡ entry_without_files other
  pub kernel : entry.kernel.bytes.now ≡ other.kernel.bytes.now
  pub lengths : lengths_beside entry ≡ lengths_beside other
