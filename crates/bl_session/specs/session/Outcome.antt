-- What a boot comes to: the first entry that is not refused, for every genuine schedule. Own.
use Rattle.std.specs.Prelude.{◌≡◌, ℕ, List, [], ◌∷◌, length, Option, None, if◌then◌else◌}
use Rattle.bl_load.specs.declared.refused_entry.RefusedEntry.{RefusedEntry}
use Rattle.bl_stage.specs.Files.{File}
use Rattle.bl_session.specs.attempt.AttemptResult.{AttemptResult, AttemptHasResult}
use Rattle.bl_session.specs.attempt.AwaitedPieces.{are_whole}
use Rattle.bl_session.specs.session.BootSteps.{BootFacts, State, unstarted, running, handed_over}
use Rattle.bl_session.specs.session.BootSteps.{none_left}
use Rattle.bl_session.specs.session.BootSteps.{out_of_memory, sizes_of, fresh, AfterAttempt}
use Rattle.bl_session.specs.menu.EntryContents.{entry_value_in}
use Rattle.bl_session.specs.session.Schedules.{Faults}

-- the file of which a fault comes. If the files have no byte there is no piece, so that no fault
-- can come: they are whole as the attempt begins
abbrev pub faulty_file : BootFacts → ℕ → Option ℕ → Option ℕ
faulty_file facts entry faulty = if are_whole (fresh facts entry) then None else faulty

-- the result of the attempt of an entry
abbrev pub EntryHasResult : BootFacts → List File → Option ℕ → ℕ → AttemptResult → Type 0
EntryHasResult facts files faulty entry =
    AttemptHasResult facts.machine (sizes_of facts entry) (faulty_file facts entry faulty)
    (entry_value_in facts files entry)

-- the first of these entries that is not refused is handed over, with the refusals before it; or
-- none is left
abbrev pub IsFirst :
    BootFacts → List File → Faults → List ℕ → List RefusedEntry → State → Type 0
IsFirst facts files faults [] earlier state = state ≡ none_left earlier
IsFirst facts files faults (entry ∷ rest) earlier state =
    (result : AttemptResult) × EntryHasResult facts files (faults (length earlier)) entry result
    × AfterAttempt (IsFirst facts files faults rest) entry earlier result state

-- the outcome of a boot with these files and faults
abbrev pub IsOutcome : BootFacts → List File → Faults → State → Type 0
IsOutcome facts files faults state = IsFirst facts files faults facts.menu.attempts [] state

-- an entry was handed over, or none is left
abbrev pub HasEnded : State → Type 0
HasEnded unstarted = ⊥
HasEnded (running entry rest earlier files) = ⊥
HasEnded (handed_over entry earlier handover) = Unit {0}
HasEnded (none_left earlier) = Unit {0}
HasEnded out_of_memory = ⊥
