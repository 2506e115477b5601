-- What the code keeps of how a boot or a map ends, by its result. Own.
use Rattle.std.specs.Prelude.{◌≡◌, ℕ, ◌+◌, ◌++◌, List, Result, Ok, Err}
use Rattle.bl_stage.specs.Files.{File}
use Rattle.bl_image.specs.SinkFacts.{TookBeginning}
use Rattle.program_desc.specs.Described.{DescriptionFacts}
use Rattle.program_desc.specs.declared.fault.DescFault.{DescFault}
use Rattle.program_desc.specs.declared.fault.DescFault.TheVariants as desc_fault
use Rattle.bl_image.specs.Image.{spelling}
use Rattle.bl_image.specs.ImageHandover.{IsKeptByImages}
use Rattle.bl_image.specs.Versions.{written_version}
use Rattle.bl_load.specs.Handover.{Handover}
use Rattle.bl_load.specs.declared.refused_entry.RefusedEntry.{RefusedEntry}
use Rattle.bl_session.specs.session.BootSteps.{BootFacts, handed_over, none_left}
use Rattle.bl_session.specs.session.Schedules.{no_fault}
use Rattle.bl_session.specs.session.Outcome.{IsOutcome}
use Rattle.program_boots.specs.described.DescribedMachine.{IsBadDescription}
use Rattle.program_boots.specs.described.DescribedMenu.{described_entry}
use Rattle.program_say.specs.BootAndMapLines.{booted_line, refused_lines, no_entry_line}
use Rattle.program_commands.specs.declared.boot_end.End.{End}
use Rattle.program_commands.specs.declared.boot_end.End.TheVariants.{Booted, NoEntryLeft}
use Rattle.program_commands.specs.declared.boot_end.EndFault.{EndFault}
use Rattle.program_commands.specs.declared.boot_end.EndFault.TheVariants.{BadDescription}
use Rattle.program_commands.specs.declared.boot_end.EndFault.TheVariants.{Device, NoMemory}
use Rattle.program_commands.specs.Ends.{IsBooted, IsRefused, IsCutShort, Surroundings}
use Rattle.program_commands.specs.MachineMap.{SaysMachineMap}

-- a fault of the description as one of a boot
abbrev pub end_fault_of_desc_fault : DescFault → EndFault
end_fault_of_desc_fault desc_fault.BadDescription = BadDescription
end_fault_of_desc_fault desc_fault.NoMemory = NoMemory

-- a sink took the image of what is handed over, which keeps all of it
pub record TookImage (before after : List ℕ) (handover : Handover) : Type 0 where
  pub image : after ≡ before ++ spelling written_version handover
  pub kept : IsKeptByImages handover

-- why an image was not handed over whole to a sink: the sink had a fault and took a beginning, or
-- memory ran out before
abbrev pub IsImageWriteFault : ℕ → ℕ → List ℕ → List ℕ → List ℕ → EndFault → Type 0
IsImageWriteFault faults_before faults_after before after image BadDescription = ⊥
IsImageWriteFault faults_before faults_after before after image Device =
    (faults_after ≡ faults_before + 1) × TookBeginning before after image
IsImageWriteFault faults_before faults_after before after image NoMemory =
    (faults_after ≡ faults_before) × (after ≡ before)

-- the boot of what was found for a description ends so: what it came to, of these files, what the
-- sink took, and what is said
abbrev pub FoundBootEnds : DescriptionFacts → BootFacts → List File → (s t u v : List ℕ)
    → Result End EndFault → Type 0
FoundBootEnds description facts files s t u v (Ok Booted) =
    (entry : ℕ) × (earlier : List RefusedEntry) × (handover : Handover)
    × IsOutcome facts files no_fault (handed_over entry earlier handover)
    × IsKeptByImages handover × (t ≡ s ++ spelling written_version handover)
    × (v ≡ u ++ (refused_lines earlier
    ++ booted_line entry (described_entry description entry).title))
FoundBootEnds description facts files s t u v (Ok NoEntryLeft) =
    (refused : List RefusedEntry) × IsOutcome facts files no_fault (none_left refused)
    × (t ≡ s) × (v ≡ u ++ (refused_lines refused ++ no_entry_line))
FoundBootEnds description facts files s t u v (Err BadDescription) = ⊥
FoundBootEnds description facts files s t u v (Err Device) =
    (entry : ℕ) × (earlier : List RefusedEntry) × (handover : Handover)
    × IsOutcome facts files no_fault (handed_over entry earlier handover)
    × TookBeginning s t (spelling written_version handover) × (v ≡ u)
FoundBootEnds description facts files s t u v (Err NoMemory) = (t ≡ s) × (v ≡ u)

-- the sink has one fault more exactly where the boot ends in a fault of the sink
abbrev pub CountsSinkFault : ℕ → ℕ → Result End EndFault → Type 0
CountsSinkFault before after (Err Device) = after ≡ before + 1
CountsSinkFault before after (Err BadDescription) = after ≡ before
CountsSinkFault before after (Err NoMemory) = after ≡ before
CountsSinkFault before after (Ok ended) = after ≡ before

-- a boot ends so
abbrev pub BootEnds : {F : Type 0} → (F → List ℕ → File → Type 0) → (F → ℕ) → List ℕ
    → Surroundings F → Surroundings F → Result End EndFault → Type 0
BootEnds answers faults desc before after (Ok Booted) = IsBooted answers faults desc before after
BootEnds answers faults desc before after (Ok NoEntryLeft) =
    IsRefused answers faults desc before after
BootEnds answers faults desc before after (Err BadDescription) =
    IsBadDescription desc × (after ≡ before)
BootEnds answers faults desc before after (Err Device) = IsCutShort answers faults desc before after
BootEnds answers faults desc before after (Err NoMemory) =
    (after.sink ≡ before.sink) × (after.said ≡ before.said)

-- a map ends so
abbrev pub MapEnds : List ℕ → List ℕ → List ℕ → Result (Unit {0}) EndFault → Type 0
MapEnds desc before after (Ok done) = SaysMachineMap desc before after
MapEnds desc before after (Err BadDescription) = IsBadDescription desc × (after ≡ before)
MapEnds desc before after (Err Device) = ⊥
MapEnds desc before after (Err NoMemory) = after ≡ before
