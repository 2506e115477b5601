-- How the explanation of a boot ends: what is told, each fact exact, and that it is told behind
-- what was said before. In which words, no definition says: the words are tested. Own.
use Rattle.std.specs.Prelude.{ℕ, List}
use Rattle.std.specs.Io.{StartsWith}
use Rattle.bl_load.specs.Handover.{Handover}
use Rattle.bl_load.specs.declared.refused_entry.RefusedEntry.{RefusedEntry}
use Rattle.bl_load.specs.declared.step.Step.{Step}
use Rattle.bl_stage.specs.Files.{File}
use Rattle.bl_session.specs.session.BootSteps.{State, handed_over, none_left}
use Rattle.program_say.specs.declared.subjects.blame.Blame.{Blame}
use Rattle.program_commands.specs.explaining.BlameConditions.{HasBlame}
use Rattle.program_boots.specs.described.DescribedMachine.{IsBadDescription}
use Rattle.program_boots.specs.described.BootCases.{BootCase, HasOutcome}
use Rattle.program_boots.specs.explaining.Details.{AreToldRefusals}
use Rattle.program_boots.specs.explaining.EntrySteps.{AreToldSteps}
use Rattle.program_boots.specs.explaining.ToldBoots.{refused_in, sought_in}
use Rattle.program_say.specs.declared.subjects.refusal_detail.ToldRefusal.{ToldRefusal}

-- with files of a type F: what they may answer for a name, and how many faults they had; and with
-- memory from an A
module _ (A : Type 0) {F : Type 0} (answers : F → List ℕ → File → Type 0) (faults : F → ℕ) where
  -- the boot that is described comes to this. It is told, with each refusal's detail, and with the
  -- steps of the entry that is handed over, behind what was said before
  pub record IsExplained (desc : List ℕ) (before after : F) (old new : List ℕ)
      (state : State) : Type 0 where
    pub case : BootCase answers faults desc before after
    pub outcome : HasOutcome answers faults case state
    pub told : List ToldRefusal
    pub are_told : AreToldRefusals case.facts case.description.entries
        (sought_in case.description case.files) (refused_in state) told
    pub steps : List Step
    pub are_steps : AreToldSteps A case.facts case.description.entries
        (sought_in case.description case.files) state steps
    pub said : StartsWith new old

  -- an entry would be handed over
  pub record ExplainsBoot (desc : List ℕ) (before after : F) (old new : List ℕ) : Type 0 where
    pub entry : ℕ
    pub earlier : List RefusedEntry
    pub handover : Handover
    pub explained : IsExplained desc before after old new (handed_over entry earlier handover)

  -- each entry that is attempted is refused
  pub record ExplainsRefusals (desc : List ℕ) (before after : F) (old new : List ℕ)
      : Type 0 where
    pub refused : List RefusedEntry
    pub explained : IsExplained desc before after old new (none_left refused)

-- the description is a bad one, for this blame, which is told behind what was said before
pub record ExplainsBlame (desc old new : List ℕ) : Type 0 where
  pub bad : IsBadDescription desc
  pub blame : Blame
  pub stands : HasBlame desc blame
  pub said : StartsWith new old
