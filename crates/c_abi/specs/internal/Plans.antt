-- Plans as they are told. Own.
use Rattle.std.specs.Prelude.{ℕ, ◌<◌, ◌≤◌, ◌^◌, List, length, All, AllPairs}
use Rattle.bl_map.specs.MachineFacts.{MachineFacts}
use Rattle.bl_load.specs.HandoffFacts.{max_parts}
use Rattle.bl_load.specs.PlanContents.{handoff_by}
use Rattle.bl_load.specs.PlanLimits.{max_steps, max_own}
use Rattle.bl_load.specs.Steps.{IsStep, StepsAscend}
use Rattle.bl_load.specs.declared.step.Step.{Step}
use Rattle.c_records.specs.Given.{value_with}
use Rattle.c_abi.specs.Plan.{PlanFacts, IsPlanOf, file_lengths}
use Rattle.c_abi.specs.Prepare.{AreFilesOf}
use Rattle.c_abi.specs.PlanTold.{source_file}
use Rattle.c_records.specs.declared.given_records.EntryRecord.{EntryRecord}
use Rattle.c_abi.specs.declared.plan_steps.SteppedPlan.{SteppedPlan}

-- a plan with its steps, as contracts see it
abbrev pub plan_facts : {A : Type 0} → SteppedPlan A → PlanFacts
plan_facts made = record {
  handoff = handoff_by made.plan;
  steps = made.told.steps.items;
  own = made.told.own;
}

-- its file's place in the entry is a number of 32 bits
abbrev pub HasSmallFile : Step → Type 0
HasSmallFile step = source_file step.source < 2 ^ 32

-- it is the entry's plan on a machine of these facts
pub record IsPlanOn (facts : MachineFacts) (entry : EntryRecord) (plan : PlanFacts) : Type 0 where
  pub is_plan :
      (texts : List (List ℕ)) → AreFilesOf entry texts
      → IsPlanOf facts (value_with entry texts) plan
  pub sound : All (IsStep (file_lengths entry) (length plan.own) facts.size) plan.steps
  pub ascending : AllPairs StepsAscend plan.steps
  pub few_places : length plan.handoff.places ≤ max_parts
  pub few_steps : length plan.steps ≤ max_steps
  pub few_own : length plan.own ≤ max_own
