-- Genuine schedules: each wanted piece holds its file's bytes, and the faults are given. Own.
use Rattle.std.specs.Prelude.{◌≡◌, ℕ, true, List, [], ◌∷◌, length, slice_index_or, Option, None}
use Rattle.std.specs.Prelude.{Some}
use Rattle.bl_load.specs.declared.refused_entry.RefusedEntry.{RefusedEntry}
use Rattle.bl_stage.specs.PieceStates.{PieceState, piece_of}
use Rattle.bl_stage.specs.Files.{File}
use Rattle.bl_session.specs.attempt.AwaitedPieces.{are_whole, with_piece}
use Rattle.bl_session.specs.session.BootSteps.{BootFacts, State}
use Rattle.bl_store.specs.Events.{EventFacts, piece, fault}
use Rattle.bl_session.specs.session.BootSteps.{is_wanted}
use Rattle.bl_session.specs.session.BootSteps.{StepsTo}
use Rattle.bl_session.specs.session.BootSteps.{on_running}
use Rattle.bl_session.specs.menu.EntryContents.{texts_of}

-- for each attempt, by its number, the place of the file of which a fault comes, or None
abbrev pub Faults : Type 0
Faults = ℕ → Option ℕ

-- no fault comes
abbrev pub no_fault : Faults
no_fault attempt = None

-- a piece completes its attempt only if no fault comes of it; a fault is the one that comes
abbrev pub EventAgreesWithFaults :
    Faults → List RefusedEntry → List (List PieceState) → EventFacts → Type 0
EventAgreesWithFaults faults earlier pieces (piece ticket bytes) =
    are_whole (with_piece pieces ticket.file ticket.piece bytes) ≡ true
    → faults (length earlier) ≡ None
EventAgreesWithFaults faults earlier pieces (fault ticket) =
    faults (length earlier) ≡ Some ticket.file

-- a piece holds its file's bytes at its place; and the faults are these
abbrev pub IsGenuineEvent :
    BootFacts → List File → Faults → ℕ → List RefusedEntry → List (List PieceState) → EventFacts
    → Type 0
IsGenuineEvent facts files faults entry earlier pieces (piece ticket bytes) =
    (bytes ≡ piece_of (slice_index_or (texts_of facts files entry) ticket.file []) ticket.piece)
    × EventAgreesWithFaults faults earlier pieces (piece ticket bytes)
IsGenuineEvent facts files faults entry earlier pieces (fault ticket) =
    EventAgreesWithFaults faults earlier pieces (fault ticket)

-- an event that is not wanted may be anything
abbrev pub IsGenuineAt : BootFacts → List File → Faults → State → EventFacts → Type 0
IsGenuineAt facts files faults state event =
    on_running state (Unit {0}) (λ entry rest earlier pieces.
    is_wanted earlier pieces event ≡ true
    → IsGenuineEvent facts files faults entry earlier pieces event)

-- each event is so where it comes
abbrev pub IsGenuine : BootFacts → List File → Faults → State → List EventFacts → Type 0
IsGenuine facts files faults state [] = Unit {0}
IsGenuine facts files faults state (event ∷ events) =
    IsGenuineAt facts files faults state event
    × ((next : State) → StepsTo facts state event next → IsGenuine facts files faults next events)
