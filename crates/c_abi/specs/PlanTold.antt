-- What C is told of a plan. Own.
use Rattle.std.specs.Prelude.{◌≡◌, ◌≤◌, ℕ, List, length, map, Result, Ok, Err}
use Rattle.bl_load.specs.declared.step.Step.{Step}
use Rattle.bl_load.specs.declared.step.StepSource.{StepSource}
use Rattle.bl_load.specs.declared.step.StepSource.TheVariants.{File, Own, Zeros}
use Rattle.c_records.specs.declared.end_records.PlaceRecord.{PlaceRecord}
use Rattle.c_records.specs.declared.end_records.HandoffRecord.{HandoffRecord}
use Rattle.c_records.specs.declared.end_records.RefusalRecord.{RefusalRecord}
use Rattle.c_records.specs.declared.load_fault.LoadFault.{LoadFault}
use Rattle.c_records.specs.declared.misuse.Misuse.TheVariants.{SmallRoom}
use Rattle.c_records.specs.declared.plan_records.PlanCountsRecord.{PlanCountsRecord}
use Rattle.c_records.specs.declared.plan_records.StepRecord.{StepRecord}
use Rattle.c_records.specs.LoadTold.{handoff_told, places_told, after_fault}
use Rattle.c_abi.specs.Plan.{PlanFacts}
use Rattle.c_records.specs.Status.{done_status, fault_status, misuse_status}
use Rattle.c_records.specs.WalkTold.{told_over}

-- ---- a step

-- 1: bytes of a file, 2: bytes that the plan holds itself, 3: zeros
abbrev pub source_number : StepSource → ℕ
source_number (File file offset) = 1
source_number (Own offset) = 2
source_number Zeros = 3

-- where the bytes begin in their source; 0 of zeros
abbrev pub source_offset : StepSource → ℕ
source_offset (File file offset) = offset
source_offset (Own offset) = offset
source_offset Zeros = 0

-- the file's place in the entry; 0 if they are no file's
abbrev pub source_file : StepSource → ℕ
source_file (File file offset) = file
source_file (Own offset) = 0
source_file Zeros = 0

abbrev pub step_told : Step → StepRecord
step_told step = record {
  address = step.address;
  length = step.length;
  offset = source_offset step.source;
  source = source_number step.source;
  file = source_file step.source;
  reserved = 0;
}

-- ---- the plan

-- what is told beside the status and the refusal
pub record PlanTelling : Type 0 where
  pub handoff : HandoffRecord
  pub counts : PlanCountsRecord
  pub places : List PlaceRecord
  pub steps : List StepRecord
  pub own : List ℕ

-- how many places, steps and own bytes a plan has
abbrev pub counts_told : PlanFacts → PlanCountsRecord
counts_told plan = record {
  places = length plan.handoff.places;
  steps = length plan.steps;
  own = length plan.own;
}

-- all of it; behind what is told an array is as it was
abbrev pub plan_told : PlanFacts → PlanTelling → PlanTelling
plan_told plan old = record {
  handoff = handoff_told 0 plan.handoff;
  counts = counts_told plan;
  places = places_told plan.handoff.places old.places;
  steps = told_over (map step_told plan.steps) old.steps;
  own = told_over plan.own old.own;
}

-- the arrays have room for its places, its steps and its own bytes
pub record HasPlanRoom (plan : PlanFacts) (places : List PlaceRecord) (steps : List StepRecord)
    (own : List ℕ) : Type 0 where
  pub places_fit : length plan.handoff.places ≤ length places
  pub steps_fit : length plan.steps ≤ length steps
  pub own_fits : length plan.own ≤ length own

-- all is told if there is room for it, and else how much is wanted
pub data TellsPlanned (plan : PlanFacts) (status : ℕ) (old new : PlanTelling) : Type 0 where
  tells_plan : HasPlanRoom plan old.places old.steps old.own → status ≡ done_status
      → new ≡ plan_told plan old → TellsPlanned plan status old new
  tells_counts : ¬ HasPlanRoom plan old.places old.steps old.own
      → status ≡ misuse_status SmallRoom
      → new ≡ record old { counts = counts_told plan } → TellsPlanned plan status old new

-- a status, and what is told of a plan, or of a fault: all but the record of a refusal is as before
-- then
abbrev pub TellsPlan : Result PlanFacts LoadFault → ℕ → (old new : PlanTelling)
    → (refusal_old refusal : RefusalRecord) → Type 0
TellsPlan (Ok plan) status old new refusal_old refusal =
    TellsPlanned plan status old new × (refusal ≡ refusal_old)
TellsPlan (Err fault) status old new refusal_old refusal =
    (status ≡ fault_status fault) × (new ≡ old) × (refusal ≡ after_fault fault refusal_old)
