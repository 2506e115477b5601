-- How the digest of a boot ends. Own.
use Rattle.std.specs.Prelude.{◌≡◌, ℕ, List, ◌++◌}
use Rattle.bl_digest.specs.Digests.{digests_of}
use Rattle.bl_load.specs.WellFormedEntry.{IsWellFormedValue}
use Rattle.bl_load.specs.Handover.{Handover}
use Rattle.bl_load.specs.declared.refused_entry.RefusedEntry.{RefusedEntry}
use Rattle.bl_stage.specs.Files.{File}
use Rattle.bl_session.specs.session.BootSteps.{handed_over, none_left}
use Rattle.program_boots.specs.described.BootCases.{BootCase, HasOutcome, entry_value_at}
use Rattle.program_boots.specs.described.DescribedMenu.{described_entry}
use Rattle.program_say.specs.BootAndMapLines.{refused_lines, no_entry_line}
use Rattle.program_boots.specs.BootLines.{boot_lines}
use Rattle.program_say.specs.DigestLines.{digest_lines}

-- with files of a type F: what they may answer for a name, and how many faults they had
module _ {F : Type 0} (answers : F → List ℕ → File → Type 0) (faults : F → ℕ) where
  -- an entry, which is within its limits and has texts of bytes, would be handed over: what is said
  -- tells the boot, and then the digests of its image
  pub record IsDigested (desc : List ℕ) (before after : F) (old new : List ℕ) : Type 0 where
    pub case : BootCase answers faults desc before after
    pub entry : ℕ
    pub earlier : List RefusedEntry
    pub handover : Handover
    pub outcome : HasOutcome answers faults case (handed_over entry earlier handover)
    pub well_formed : IsWellFormedValue (entry_value_at case entry)
    pub said : new ≡ old
        ++ (boot_lines earlier entry (described_entry case.description entry).title
        ++ digest_lines (digests_of handover))

  -- each entry that is attempted is refused, and what is said tells it
  pub record TellsRefusals (desc : List ℕ) (before after : F) (old new : List ℕ) : Type 0 where
    pub case : BootCase answers faults desc before after
    pub refused : List RefusedEntry
    pub outcome : HasOutcome answers faults case (none_left refused)
    pub said : new ≡ old ++ (refused_lines refused ++ no_entry_line)
