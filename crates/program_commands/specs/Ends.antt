-- How a boot of the program ends. Own.
use Rattle.std.specs.Prelude.{◌≡◌, ℕ, List, ◌++◌}
use Rattle.bl_load.specs.WellFormedEntry.{IsWellFormedValue}
use Rattle.bl_load.specs.Handover.{Handover}
use Rattle.bl_load.specs.declared.refused_entry.RefusedEntry.{RefusedEntry}
use Rattle.bl_stage.specs.Files.{File}
use Rattle.bl_image.specs.SinkFacts.{TookBeginning}
use Rattle.bl_image.specs.Image.{spelling}
use Rattle.bl_image.specs.ImageHandover.{IsKeptByImages}
use Rattle.bl_image.specs.Versions.{written_version}
use Rattle.bl_session.specs.session.BootSteps.{handed_over, none_left}
use Rattle.bl_session.specs.menu.EntryContents.{entry_value_in}
use Rattle.program_boots.specs.described.BootCases.{boot_of}
use Rattle.program_boots.specs.described.DescribedMenu.{described_entry}
use Rattle.program_boots.specs.described.BootCases.{BootCase, HasOutcome}
use Rattle.program_say.specs.BootAndMapLines.{booted_line, refused_lines, no_entry_line}

-- what a boot starts from, or what it leaves: the files, what the sink took, and what is said
pub record Surroundings (F : Type 0) : Type 0 where
  pub files : F
  pub sink : List ℕ
  pub said : List ℕ

-- with files of a type F: what they may answer for a name, and how many faults they had
module _ {F : Type 0} (answers : F → List ℕ → File → Type 0) (faults : F → ℕ) where
  -- an entry, which is within its limits and has texts of bytes, was handed over: the sink took its
  -- image, which keeps all of what is handed over, and what is said tells the entry after the
  -- refusals before it
  pub record IsBooted (desc : List ℕ) (before after : Surroundings F) : Type 0 where
    pub case : BootCase answers faults desc before.files after.files
    pub entry : ℕ
    pub earlier : List RefusedEntry
    pub handover : Handover
    pub outcome : HasOutcome answers faults case (handed_over entry earlier handover)
    pub well_formed : IsWellFormedValue
        (entry_value_in (boot_of case.description case.facts case.files) case.files entry)
    pub kept : IsKeptByImages handover
    pub image : after.sink ≡ before.sink ++ spelling written_version handover
    pub said : after.said ≡ before.said
        ++ (refused_lines earlier
        ++ booted_line entry (described_entry case.description entry).title)

  -- each entry that was attempted was refused, the sink took nothing, and what is said tells it
  pub record IsRefused (desc : List ℕ) (before after : Surroundings F) : Type 0 where
    pub case : BootCase answers faults desc before.files after.files
    pub refused : List RefusedEntry
    pub outcome : HasOutcome answers faults case (none_left refused)
    pub nothing : after.sink ≡ before.sink
    pub said : after.said ≡ before.said ++ (refused_lines refused ++ no_entry_line)

  -- an entry can be handed over, but of its image the sink took a beginning; nothing is said
  pub record IsCutShort (desc : List ℕ) (before after : Surroundings F) : Type 0 where
    pub case : BootCase answers faults desc before.files after.files
    pub entry : ℕ
    pub earlier : List RefusedEntry
    pub handover : Handover
    pub outcome : HasOutcome answers faults case (handed_over entry earlier handover)
    pub begun : TookBeginning before.sink after.sink (spelling written_version handover)
    pub unsaid : after.said ≡ before.said
