-- A plan as it is fed: its steps, and what a handover has beside bytes. Own.
use Rattle.std.specs.Prelude.{ℕ, ◌+◌, List, [], ◌∷◌, ◌++◌, take, drop, replicate, slice_range}
use Rattle.bl_plan.specs.declared.part.Place.{Place}
use Rattle.bl_plan.specs.declared.protocol.Protocol.{Protocol}
use Rattle.bl_load.specs.declared.plan.Plan.{Plan}
use Rattle.bl_load.specs.declared.registers.Registers.{Registers}
use Rattle.bl_load.specs.declared.step.Step.{Step}
use Rattle.bl_load.specs.declared.step.StepSource.{StepSource}
use Rattle.bl_load.specs.declared.step.StepSource.TheVariants.{File, Own, Zeros}
use Rattle.bl_load.specs.Handover.{Part, Handover, placed_part}
use Rattle.bl_load.specs.Loadable.{IsLoadable}
use Rattle.bl_load.specs.PlanContents.{places_of}
use Rattle.bl_load.specs.PlanSteps.{steps_from, own_bytes}
use Rattle.bl_load.specs.Steps.{source_bytes}

-- protocol, registers and places; the steps, and the bytes that the plan holds itself
pub record PlanInSteps : Type 0 where
  pub protocol : Protocol
  pub registers : Registers
  pub places : List Place
  pub steps : List Step
  pub own : List ℕ

-- a plan's
abbrev pub plan_in_steps : {A : Type 0} → Plan A → PlanInSteps
plan_in_steps plan = record {
  protocol = plan.protocol;
  registers = plan.registers;
  places = places_of plan;
  steps = steps_from 0 plan.parts.items;
  own = own_bytes plan.parts.items;
}

-- the plan can be loaded out of files of these lengths, into some memory
abbrev pub CanBeLoadedFrom : {A : Type 0} → List ℕ → Plan A → Type 0
CanBeLoadedFrom lengths plan = (size : ℕ) × IsLoadable lengths size plan

-- the bytes that steps write, one step's after the other's, where the plan holds these bytes itself
-- and the files hold these texts
abbrev pub bytes_of_steps : List ℕ → List (List ℕ) → List Step → List ℕ
bytes_of_steps own texts [] = []
bytes_of_steps own texts (step ∷ steps) =
    source_bytes own texts step.source step.length ++ bytes_of_steps own texts steps

-- parts at places, whose bytes are these, one part's after the other's
abbrev pub parts_along : List Place → List ℕ → List Part
parts_along [] bytes = []
parts_along (place ∷ places) bytes =
    placed_part place (take place.length bytes) ∷ parts_along places (drop place.length bytes)

-- what it hands over, where the files hold these texts
abbrev pub handover_in_steps : List (List ℕ) → PlanInSteps → Handover
handover_in_steps texts plan = record {
  protocol = plan.protocol;
  registers = plan.registers;
  parts = parts_along plan.places (bytes_of_steps plan.own texts plan.steps);
}

-- a plan that is fed, and the bytes that came, all ranges' in order
pub record DigestingFacts : Type 0 where
  pub plan : PlanInSteps
  pub fed : List ℕ

-- so many bytes of a source, where the bytes of files come in this order
abbrev pub source_fill : List ℕ → StepSource → ℕ → List ℕ → List ℕ
source_fill own (File file offset) count fed = take count fed
source_fill own (Own offset) count fed = slice_range own offset (offset + count)
source_fill own Zeros count fed = replicate count 0

-- the bytes of files that come after them
abbrev pub fed_behind : StepSource → ℕ → List ℕ → List ℕ
fed_behind (File file offset) count fed = drop count fed
fed_behind (Own offset) count fed = fed
fed_behind Zeros count fed = fed

-- the bytes that steps write, where the bytes of files come in this order
abbrev pub filled : List ℕ → List Step → List ℕ → List ℕ
filled own [] fed = []
filled own (step ∷ steps) fed =
    source_fill own step.source step.length fed
    ++ filled own steps (fed_behind step.source step.length fed)

-- what it hands over by the bytes that came, whatever the files hold
abbrev pub handover_fed : DigestingFacts → Handover
handover_fed digest = record {
  protocol = digest.plan.protocol;
  registers = digest.plan.registers;
  parts = parts_along digest.plan.places (filled digest.plan.own digest.plan.steps digest.fed);
}
