-- The steps of the entry that is handed over.
use Rattle.std.proofs.Common.{◌≡◌, ℕ, List, map, sym, subst}
use Rattle.bl_map.specs.MachineFacts.{MachineFacts}
use Rattle.bl_load.specs.Handover.{Handover}
use Rattle.bl_load.specs.Parts.{IsHandover}
use Rattle.bl_load.specs.EntryValue.{EntryValue}
use Rattle.bl_load.specs.declared.refused_entry.RefusedEntry.{RefusedEntry}
use Rattle.bl_stage.specs.Files.{File, size_of}
use Rattle.bl_session.specs.session.BootSteps.{handed_over}
use Rattle.bl_session.specs.menu.Menu.{MenuFacts}
use Rattle.bl_session.specs.session.Schedules.{no_fault}
use Rattle.bl_session.specs.session.Outcome.{IsOutcome}
use Rattle.bl_session.specs.session.Phases.{boot_facts}
use Rattle.bl_session.proofs.session_lemmas.OutcomeLaws.{is_handover}
use Rattle.program_desc.specs.Described.{DescriptionFacts}
use Rattle.program_boots.specs.described.BootCases.{boot_of}
use Rattle.program_boots.specs.described.DescribedMenu.{menu_of}
use Rattle.program_boots.specs.explaining.AttemptedEntries.{HasHandoverAt}
use Rattle.program_say.specs.Sought.{SoughtFacts}
use Rattle.program_boots.specs.explaining.ToldBoots.{sought_in}
use Rattle.program_boots.proofs.explaining_lemmas.RefusedLemmas.{value_of_entry}

handed_entry : (d : DescriptionFacts) (facts : MachineFacts) (files : List File) (entry : ℕ)
    (earlier : List RefusedEntry) (handover : Handover)
    → IsOutcome (boot_of d facts files) files no_fault (handed_over entry earlier handover)
    → HasHandoverAt facts d.entries (sought_in d files) entry
handed_entry d facts files entry earlier handover came = λ e here. (
  handover,
  subst (λ (v : EntryValue). IsHandover facts v handover)
      (value_of_entry d facts files entry e here)
      (is_handover (boot_of d facts files) files no_fault entry earlier handover came),
)

-- it has a handover, where a menu is that of the description, and this was found
pub handed_entry_for : (d : DescriptionFacts) (facts : MachineFacts) (files : List File)
    (menu : MenuFacts) (entry : ℕ) (earlier : List RefusedEntry) (handover : Handover)
    (sought : SoughtFacts) → sought ≡ sought_in d files → menu ≡ menu_of d
    → IsOutcome (boot_facts facts menu (map size_of files)) files no_fault
    (handed_over entry earlier handover)
    → HasHandoverAt facts d.entries sought entry
handed_entry_for d facts files menu entry earlier handover sought found same came =
    subst (λ (s : SoughtFacts). HasHandoverAt facts d.entries s entry) (sym found)
    (handed_entry d facts files entry earlier handover
    (subst
    (λ (m : MenuFacts). IsOutcome (boot_facts facts m (map size_of files)) files no_fault
    (handed_over entry earlier handover))
    same came))
