-- What the stores here keep, and what they answer. Own.
use Rattle.std.specs.Prelude.{ℕ, ◌+◌, ◌-◌, ◌*◌, ◌==◌, ◌&&◌, nat_lt, Bool, true, false}
use Rattle.std.specs.Prelude.{if◌then◌else◌, List, [], ◌∷◌, ◌++◌, length, take, drop}
use Rattle.std.specs.Prelude.{slice_get, slice_index_or, Option, None, Some, option_map}
use Rattle.bl_stage.specs.PieceStates.{piece_of}
use Rattle.bl_stage.specs.Files.{File, missing, file_bytes}
use Rattle.bl_store.specs.declared.ticket.Ticket.{Ticket}
use Rattle.bl_store.specs.declared.store.Completion.{Completion}
use Rattle.bl_store.specs.declared.store.Completion.TheVariants.{Piece, Fault}
use Rattle.bl_store.specs.declared.submission.Submission.{Submission}
use Rattle.bl_store.specs.declared.order.Order.{Order}
use Rattle.bl_store.specs.declared.order.Order.TheVariants.{Forward, Reverse}
use Rattle.bl_store.specs.Events.{EventFacts, piece, fault}
use Rattle.bl_store.specs.History.{HistoryItem, submitted, came, failed, nothing}
use Rattle.bl_store.specs.History.{file_under}

-- ---- answers

-- an answer, as the event that it is
abbrev pub event_of : {A : Type 0} → Completion A → EventFacts
event_of (Piece ticket bytes) = piece ticket bytes.items
event_of (Fault ticket) = fault ticket

-- to a submission for a file of this text: the piece, or a fault, if the text has no such piece
abbrev pub answer_of : List ℕ → Ticket → EventFacts
answer_of text ticket =
    if nat_lt (4096 * ticket.piece) (length text)
    then piece ticket (piece_of text ticket.piece)
    else fault ticket

abbrev pub answer_to : List File → Submission → EventFacts
answer_to files submission =
    answer_of (file_bytes (slice_index_or files submission.file missing)) submission.ticket

-- ---- a history, one answer longer

abbrev pub are_equal : List ℕ → List ℕ → Bool
are_equal [] [] = true
are_equal [] (y ∷ ys) = false
are_equal (x ∷ xs) [] = false
are_equal (x ∷ xs) (y ∷ ys) = (x == y) && are_equal xs ys

-- whether the bytes are those of a file at the place of a piece
abbrev pub is_piece_of : List File → Option ℕ → ℕ → List ℕ → Bool
is_piece_of files None index bytes = false
is_piece_of files (Some file) index bytes =
    are_equal bytes (piece_of (file_bytes (slice_index_or files file missing)) index)

abbrev pub item_of_event : List File → List HistoryItem → EventFacts → HistoryItem
item_of_event files given (piece ticket bytes) =
    came ticket (length bytes) (is_piece_of files (file_under given ticket) ticket.piece bytes)
item_of_event files given (fault ticket) = failed ticket

-- what an answer adds to the history so far
abbrev pub item_of_answer : List File → List HistoryItem → Option EventFacts → HistoryItem
item_of_answer files given None = nothing
item_of_answer files given (Some event) = item_of_event files given event

-- ---- a store over files that were fetched

-- which submission is answered next, of those that are still to be answered: the first, or the last
abbrev pub next_place : Order → List Submission → ℕ
next_place Forward pending = 0
next_place Reverse pending = length pending - 1

-- the list without what stands at a place
abbrev pub without_index : {T : Type 0} → List T → ℕ → List T
without_index list place = take place list ++ drop (place + 1) list

-- a `FileStore`: its files, the order of its answers, the submissions that are still to be
-- answered, and its history
pub record FileStoreFacts : Type 0 where
  pub files : List File
  pub order : Order
  pub pending : List Submission
  pub given : List HistoryItem

-- the answer that is next
abbrev pub next_event : FileStoreFacts → Option EventFacts
next_event store =
    option_map (answer_to store.files)
    (slice_get store.pending (next_place store.order store.pending))

-- after a submission it is the last that is to be answered; after an answer its submission is left
-- out
abbrev pub after_submission : FileStoreFacts → Submission → FileStoreFacts
after_submission store submission = record {
  files = store.files;
  order = store.order;
  pending = store.pending ++ submission ∷ [];
  given = store.given ++ submitted submission.file submission.ticket ∷ [];
}

abbrev pub after_answer : FileStoreFacts → Option EventFacts → FileStoreFacts
after_answer store told = record {
  files = store.files;
  order = store.order;
  pending = without_index store.pending (next_place store.order store.pending);
  given = store.given ++ item_of_answer store.files store.given told ∷ [];
}

-- what a completion adds to the history so far
abbrev pub item_of_completion : {A : Type 0} → List File → List HistoryItem → Option (Completion A)
    → HistoryItem
item_of_completion files given answer = item_of_answer files given (option_map event_of answer)
