-- What the code keeps of how a digest ends, by its result.
use Rattle.std.specs.Prelude.{◌≡◌, ℕ, ◌++◌, List, Result, Ok, Err}
use Rattle.bl_digest.specs.Digests.{digests_of}
use Rattle.bl_load.specs.Handover.{Handover}
use Rattle.bl_load.specs.declared.refused_entry.RefusedEntry.{RefusedEntry}
use Rattle.bl_stage.specs.Files.{File}
use Rattle.bl_session.specs.session.BootSteps.{BootFacts, handed_over, none_left}
use Rattle.bl_session.specs.session.Outcome.{IsOutcome}
use Rattle.bl_session.specs.session.Schedules.{no_fault}
use Rattle.program_desc.specs.Described.{DescriptionFacts}
use Rattle.program_boots.specs.described.DescribedMachine.{IsBadDescription}
use Rattle.program_boots.specs.described.DescribedMenu.{described_entry}
use Rattle.program_commands.specs.declared.boot_end.End.{End}
use Rattle.program_commands.specs.declared.boot_end.End.TheVariants.{Booted, NoEntryLeft}
use Rattle.program_commands.specs.declared.boot_end.EndFault.{EndFault}
use Rattle.program_commands.specs.declared.boot_end.EndFault.TheVariants.{BadDescription}
use Rattle.program_commands.specs.declared.boot_end.EndFault.TheVariants.{Device, NoMemory}
use Rattle.program_say.specs.BootAndMapLines.{refused_lines, no_entry_line}
use Rattle.program_say.specs.DigestLines.{digest_lines}
use Rattle.program_boots.specs.BootLines.{boot_lines}
use Rattle.program_commands.specs.digesting.Digested.{IsDigested, TellsRefusals}

-- the digest of what was found for a description ends so: what its boot comes to, of these files,
-- and what is said
abbrev pub FoundDigestEnds : DescriptionFacts → BootFacts → List File → (old new : List ℕ)
    → Result End EndFault → Type 0
FoundDigestEnds description facts files old new (Ok Booted) =
    (entry : ℕ) × (earlier : List RefusedEntry) × (handover : Handover)
    × IsOutcome facts files no_fault (handed_over entry earlier handover)
    × (new ≡ old ++ (boot_lines earlier entry (described_entry description entry).title
    ++ digest_lines (digests_of handover)))
FoundDigestEnds description facts files old new (Ok NoEntryLeft) =
    (refused : List RefusedEntry) × IsOutcome facts files no_fault (none_left refused)
    × (new ≡ old ++ (refused_lines refused ++ no_entry_line))
FoundDigestEnds description facts files old new (Err BadDescription) = ⊥
FoundDigestEnds description facts files old new (Err Device) = ⊥
FoundDigestEnds description facts files old new (Err NoMemory) = new ≡ old

-- the digest of a boot ends so
abbrev pub DigestEnds : {F : Type 0} → (F → List ℕ → File → Type 0) → (F → ℕ) → List ℕ
    → (before after : F) → (old new : List ℕ) → Result End EndFault → Type 0
DigestEnds answers faults desc before after old new (Ok Booted) =
    IsDigested answers faults desc before after old new
DigestEnds answers faults desc before after old new (Ok NoEntryLeft) =
    TellsRefusals answers faults desc before after old new
DigestEnds answers faults desc before after old new (Err BadDescription) =
    IsBadDescription desc × (after ≡ before) × (new ≡ old)
DigestEnds answers faults desc before after old new (Err Device) = ⊥
DigestEnds answers faults desc before after old new (Err NoMemory) = new ≡ old
