-- What is told of a boot, by what was found for the names.
use Rattle.std.proofs.Common.{◌≡◌, ℕ, List, length, map, subst, sym}
use Rattle.bl_load.specs.HandoffFacts.{HandoffFacts}
use Rattle.bl_load.specs.declared.refused_entry.RefusedEntry.{RefusedEntry}
use Rattle.bl_load.specs.declared.step.Step.{Step}
use Rattle.bl_map.specs.MachineFacts.{MachineFacts}
use Rattle.bl_stage.specs.Files.{File, size_of}
use Rattle.bl_session.specs.menu.Menu.{MenuFacts}
use Rattle.bl_session.specs.session.BootSteps.{handed_over, none_left}
use Rattle.bl_session.specs.session.Outcome.{IsOutcome}
use Rattle.bl_session.specs.session.Phases.{LiesWithin, boot_facts, handover_held}
use Rattle.bl_session.specs.session.Schedules.{no_fault}
use Rattle.program_desc.specs.Described.{DescriptionFacts}
use Rattle.program_say.specs.Sought.{SoughtFacts}
use Rattle.program_say.specs.declared.subjects.refusal_detail.ToldRefusal.{ToldRefusal}
use Rattle.program_boots.specs.explaining.Details.{AreToldRefusals}
use Rattle.program_boots.specs.explaining.EntrySteps.{AreStepsAt}
use Rattle.program_boots.specs.explaining.ToldBoots.{TellsBooted, TellsNoneLeft, sought_in}

pub booted_for : (A : Type 0) (d : DescriptionFacts) (facts : MachineFacts) (files : List File)
    (menu : MenuFacts) (entry : ℕ) (earlier : List RefusedEntry) (memory : List ℕ)
    (handoff : HandoffFacts) (sought : SoughtFacts) (told : List ToldRefusal) (steps : List Step)
    → sought ≡ sought_in d files → length memory ≡ facts.size → LiesWithin facts.size handoff
    → IsOutcome (boot_facts facts menu (map size_of files)) files no_fault
    (handed_over entry earlier (handover_held memory handoff))
    → AreToldRefusals facts d.entries sought earlier told
    → AreStepsAt A facts d.entries sought entry steps
    → TellsBooted A (boot_facts facts menu (map size_of sought.files)) d.entries sought entry
    earlier handoff told steps
booted_for A d facts files menu entry earlier memory handoff sought told steps found whole inside
    came are_told are_steps = record {
      memory = memory;
      whole = whole;
      inside = inside;
      outcome = subst
          (λ (s : SoughtFacts). IsOutcome (boot_facts facts menu (map size_of s.files)) s.files no_fault
          (handed_over entry earlier (handover_held memory handoff)))
          (sym found) came;
      are_told = are_told;
      are_steps = are_steps;
    }

pub none_left_for : (d : DescriptionFacts) (facts : MachineFacts) (files : List File)
    (menu : MenuFacts) (refused : List RefusedEntry) (sought : SoughtFacts)
    (told : List ToldRefusal) → sought ≡ sought_in d files
    → IsOutcome (boot_facts facts menu (map size_of files)) files no_fault (none_left refused)
    → AreToldRefusals facts d.entries sought refused told
    → TellsNoneLeft (boot_facts facts menu (map size_of sought.files)) d.entries sought refused told
none_left_for d facts files menu refused sought told found came are_told =
    record {
      outcome = subst
          (λ (s : SoughtFacts). IsOutcome (boot_facts facts menu (map size_of s.files)) s.files no_fault
          (none_left refused))
          (sym found) came;
      are_told = are_told;
    }
