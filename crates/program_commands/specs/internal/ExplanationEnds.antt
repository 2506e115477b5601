-- What the code keeps of how an explanation ends, by its result. Own.
use Rattle.std.specs.Prelude.{◌≡◌, ℕ, List, Result, Ok, Err}
use Rattle.std.specs.Io.{StartsWith}
use Rattle.bl_load.specs.Handover.{Handover}
use Rattle.bl_load.specs.declared.refused_entry.RefusedEntry.{RefusedEntry}
use Rattle.bl_load.specs.declared.step.Step.{Step}
use Rattle.bl_stage.specs.Files.{File}
use Rattle.bl_session.specs.session.BootSteps.{BootFacts, handed_over, none_left}
use Rattle.bl_session.specs.session.Schedules.{no_fault}
use Rattle.bl_session.specs.session.Outcome.{IsOutcome}
use Rattle.program_desc.specs.Described.{DescriptionFacts}
use Rattle.program_commands.specs.declared.boot_end.End.{End}
use Rattle.program_commands.specs.declared.boot_end.End.TheVariants.{Booted, NoEntryLeft}
use Rattle.program_commands.specs.declared.boot_end.EndFault.{EndFault}
use Rattle.program_commands.specs.declared.boot_end.EndFault.TheVariants.{BadDescription}
use Rattle.program_commands.specs.declared.boot_end.EndFault.TheVariants.{Device, NoMemory}
use Rattle.program_commands.specs.explaining.Explained.{ExplainsBlame, ExplainsBoot}
use Rattle.program_commands.specs.explaining.Explained.{ExplainsRefusals}
use Rattle.program_say.specs.Sought.{SoughtFacts}
use Rattle.program_boots.specs.explaining.Details.{AreToldRefusals}
use Rattle.program_boots.specs.explaining.EntrySteps.{AreStepsAt}
use Rattle.program_say.specs.declared.subjects.refusal_detail.ToldRefusal.{ToldRefusal}

-- the boot of what was found for a description is explained so: what it came to, of these files,
-- and what is told of it, behind what was said before
abbrev pub ExplainFoundEnds :
    Type 0 → DescriptionFacts → BootFacts → List File → SoughtFacts → (old new : List ℕ)
    → Result End EndFault → Type 0
ExplainFoundEnds A description facts files sought old new (Ok Booted) =
    (entry : ℕ) × (earlier : List RefusedEntry) × (handover : Handover)
    × IsOutcome facts files no_fault (handed_over entry earlier handover)
    × (told : List ToldRefusal)
    × AreToldRefusals facts.machine description.entries sought earlier told
    × (steps : List Step) × AreStepsAt A facts.machine description.entries sought entry steps
    × StartsWith new old
ExplainFoundEnds A description facts files sought old new (Ok NoEntryLeft) =
    (refused : List RefusedEntry) × IsOutcome facts files no_fault (none_left refused)
    × (told : List ToldRefusal)
    × AreToldRefusals facts.machine description.entries sought refused told
    × StartsWith new old
ExplainFoundEnds A description facts files sought old new (Err BadDescription) = ⊥
ExplainFoundEnds A description facts files sought old new (Err Device) = ⊥
ExplainFoundEnds A description facts files sought old new (Err NoMemory) = new ≡ old

-- an explanation ends so
abbrev pub ExplainEnds : Type 0 → {F : Type 0} → (F → List ℕ → File → Type 0) → (F → ℕ) → List ℕ
    → (before after : F) → (old new : List ℕ) → Result End EndFault → Type 0
ExplainEnds A answers faults desc before after old new (Ok Booted) =
    ExplainsBoot A answers faults desc before after old new
ExplainEnds A answers faults desc before after old new (Ok NoEntryLeft) =
    ExplainsRefusals A answers faults desc before after old new
ExplainEnds A answers faults desc before after old new (Err BadDescription) =
    ExplainsBlame desc old new × (after ≡ before)
ExplainEnds A answers faults desc before after old new (Err Device) = ⊥
ExplainEnds A answers faults desc before after old new (Err NoMemory) = new ≡ old
