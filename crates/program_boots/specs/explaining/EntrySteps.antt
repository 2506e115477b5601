-- The steps by which an entry is handed over. Own.
use Rattle.std.specs.Prelude.{◌≡◌, ℕ, List, [], map, Option, Some, None, slice_get}
use Rattle.bl_map.specs.MachineFacts.{MachineFacts}
use Rattle.bl_load.specs.EntryValue.{EntryValue}
use Rattle.bl_load.specs.Origins.{planned_origin, AreOrigins}
use Rattle.bl_load.specs.PlanSteps.{steps_from}
use Rattle.bl_load.specs.declared.plan.PlannedPart.{PlannedPart}
use Rattle.bl_load.specs.declared.step.Step.{Step}
use Rattle.bl_session.specs.session.BootSteps.{State, unstarted, running, handed_over, none_left}
use Rattle.bl_session.specs.session.BootSteps.{out_of_memory}
use Rattle.program_desc.specs.Entries.{Entry}
use Rattle.program_boots.specs.explaining.Details.{value_sought}
use Rattle.program_say.specs.Sought.{SoughtFacts}

-- a plan whose parts come from where those of an entry of this value do has these steps; facts and
-- value alone decide which they are. The plan's lists take their memory from an A, which tells
-- nothing of them.
pub record AreEntrySteps (A : Type 0) (facts : MachineFacts) (value : EntryValue)
    (steps : List Step) : Type 0 where
  pub parts : List (PlannedPart A)
  pub origins : AreOrigins facts value (map planned_origin parts)
  pub are : steps ≡ steps_from 0 parts

abbrev pub AreStepsIf : Type 0 → MachineFacts → SoughtFacts → Option Entry → List Step → Type 0
AreStepsIf A facts sought None steps = steps ≡ []
AreStepsIf A facts sought (Some entry) steps =
    AreEntrySteps A facts (value_sought sought entry) steps

-- of the entry of a menu that has this index, with what was found for the names of its files
abbrev pub AreStepsAt :
    Type 0 → MachineFacts → List Entry → SoughtFacts → ℕ → List Step → Type 0
AreStepsAt A facts entries sought index steps =
    AreStepsIf A facts sought (slice_get entries index) steps

-- of the entry that is handed over; where none is, there are none
abbrev pub AreToldSteps :
    Type 0 → MachineFacts → List Entry → SoughtFacts → State → List Step → Type 0
AreToldSteps A facts entries sought unstarted steps = steps ≡ []
AreToldSteps A facts entries sought (running entry rest earlier files) steps = steps ≡ []
AreToldSteps A facts entries sought (handed_over entry earlier handover) steps =
    AreStepsAt A facts entries sought entry steps
AreToldSteps A facts entries sought (none_left refused) steps = steps ≡ []
AreToldSteps A facts entries sought out_of_memory steps = steps ≡ []
