-- What a boot asks a store for as an attempt begins: each piece of its files. Own.
use Rattle.std.specs.Prelude.{ℕ, ◌+◌, ◌==◌, List, [], ◌∷◌, ◌++◌, length, map}
use Rattle.std.specs.Prelude.{if◌then◌else◌}
use Rattle.std.specs.List.{range_with_len}
use Rattle.bl_stage.specs.PieceStates.{PieceState}
use Rattle.bl_session.specs.menu.Menu.{entry_at}
use Rattle.bl_session.specs.attempt.AwaitedTickets.{ticket_of}
use Rattle.bl_session.specs.session.BootSteps.{BootFacts, State, attempt_number, on_running}
use Rattle.bl_store.specs.History.{HistoryItem, submitted}

-- a file of so many pieces is asked for, one piece after the other
abbrev pub piece_submissions : (attempt place file count : ℕ) → List HistoryItem
piece_submissions attempt place file count =
    map (λ piece. submitted file (ticket_of attempt place piece)) (range_with_len 0 count)

-- the files of an entry, by their index, from this place on, the one with the first of these
-- pieces, and so on
abbrev pub submissions_for_files : (attempt place : ℕ) → List ℕ → List (List PieceState)
    → List HistoryItem
submissions_for_files attempt place [] files = []
submissions_for_files attempt place (index ∷ indices) [] = []
submissions_for_files attempt place (index ∷ indices) (states ∷ files) =
    piece_submissions attempt place index (length states)
    ++ submissions_for_files attempt (place + 1) indices files

-- each piece of the attempt that runs: files ascending, and in each of them pieces ascending
abbrev pub attempt_submissions : BootFacts → State → List HistoryItem
attempt_submissions facts state =
    on_running state [] (λ entry rest earlier files.
    submissions_for_files (length earlier) 0 (entry_at facts.menu entry).files files)

-- what is to be asked for after a step from one state to another: nothing more if the attempt goes
-- on, else each piece of the attempt that runs now
abbrev pub new_submissions : BootFacts → (old new : State) → List HistoryItem
new_submissions facts old new =
    if attempt_number new == attempt_number old then [] else attempt_submissions facts new
