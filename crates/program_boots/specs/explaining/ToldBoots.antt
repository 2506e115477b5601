-- What is told of a boot for a person. These facts are told, each exact; in which words, no
-- definition says: the words are tested. Own.
use Rattle.std.specs.Prelude.{◌≡◌, ℕ, List, [], length}
use Rattle.bl_load.specs.HandoffFacts.{HandoffFacts}
use Rattle.bl_load.specs.declared.refused_entry.RefusedEntry.{RefusedEntry}
use Rattle.bl_load.specs.declared.step.Step.{Step}
use Rattle.bl_stage.specs.Files.{File}
use Rattle.bl_session.specs.session.BootSteps.{BootFacts, State, unstarted, running, handed_over}
use Rattle.bl_session.specs.session.BootSteps.{none_left, out_of_memory}
use Rattle.bl_session.specs.session.Outcome.{IsOutcome}
use Rattle.bl_session.specs.session.Phases.{LiesWithin, handover_held}
use Rattle.bl_session.specs.session.Schedules.{no_fault}
use Rattle.program_desc.specs.Described.{DescriptionFacts}
use Rattle.program_desc.specs.Entries.{Entry}
use Rattle.program_boots.specs.described.DescribedMenu.{attempted_file_names}
use Rattle.program_boots.specs.explaining.Details.{AreToldRefusals}
use Rattle.program_boots.specs.explaining.EntrySteps.{AreStepsAt}
use Rattle.program_say.specs.Sought.{SoughtFacts}
use Rattle.program_say.specs.declared.subjects.refusal_detail.ToldRefusal.{ToldRefusal}

-- what is told of a description's files, where these were found for the names that are looked for
abbrev pub sought_in : DescriptionFacts → List File → SoughtFacts
sought_in description files =
    record { names = attempted_file_names description; files = files }

-- the refusals of what a boot came to
abbrev pub refused_in : State → List RefusedEntry
refused_in unstarted = []
refused_in (running entry rest earlier pieces) = []
refused_in (handed_over entry earlier handover) = earlier
refused_in (none_left refused) = refused
refused_in out_of_memory = []

-- what is told of a boot of these entries, with what was found for the names of their files. The
-- plan's lists take their memory from an A, which tells nothing of them.
module _ (A : Type 0) (boot : BootFacts) (entries : List Entry) (sought : SoughtFacts) where
  -- it hands this entry over after these refusals: each refusal with its detail, and of the entry
  -- the steps by which its parts get their bytes, and what memory hands over but for these bytes:
  -- its protocol, its registers, and the places of its parts
  pub record TellsBooted (entry : ℕ) (earlier : List RefusedEntry) (handoff : HandoffFacts)
      (told : List ToldRefusal) (steps : List Step) : Type 0 where
    pub memory : List ℕ
    pub whole : length memory ≡ boot.machine.size
    pub inside : LiesWithin boot.machine.size handoff
    pub outcome :
        IsOutcome boot sought.files no_fault
        (handed_over entry earlier (handover_held memory handoff))
    pub are_told : AreToldRefusals boot.machine entries sought earlier told
    pub are_steps : AreStepsAt A boot.machine entries sought entry steps

-- each entry that was attempted was refused: each refusal with its detail
pub record TellsNoneLeft (boot : BootFacts) (entries : List Entry) (sought : SoughtFacts)
    (refused : List RefusedEntry) (told : List ToldRefusal) : Type 0 where
  pub outcome : IsOutcome boot sought.files no_fault (none_left refused)
  pub are_told : AreToldRefusals boot.machine entries sought refused told
