-- What a store was asked, and what it answered. Own.
use Rattle.std.specs.Prelude.{◌≡◌, ◌↔◌, ℕ, ◌==◌, ◌&&◌, Bool, true, if◌then◌else◌, List, [], ◌∷◌}
use Rattle.std.specs.Prelude.{length, slice_index_or, Option, None, Some}
use Rattle.bl_stage.specs.PieceStates.{piece_of}
use Rattle.bl_stage.specs.Files.{File, missing, file_bytes}
use Rattle.bl_store.specs.declared.ticket.Ticket.{Ticket}
use Rattle.bl_store.specs.declared.store.Completion.{Completion}
use Rattle.bl_store.specs.declared.store.Completion.TheVariants.{Piece, Fault}

-- a file was asked for under a ticket; or an answer: so many bytes came, with a mark whether they
-- are those of the file at the place of the piece; a fault; nothing more to come
pub data HistoryItem : Type 0 where
  submitted : (file : ℕ) → Ticket → HistoryItem
  came : Ticket → (count : ℕ) → (genuine : Bool) → HistoryItem
  failed : Ticket → HistoryItem
  nothing : HistoryItem

abbrev pub is_same : Ticket → Ticket → Bool
is_same s t = (s.attempt == t.attempt) && ((s.file == t.file) && (s.piece == t.piece))

-- the file that was last asked for under a ticket, after one that was found before
abbrev pub last_submitted_file : Option ℕ → List HistoryItem → Ticket → Option ℕ
last_submitted_file found [] ticket = found
last_submitted_file found (submitted file t ∷ items) ticket =
    last_submitted_file (if is_same t ticket then Some file else found) items ticket
last_submitted_file found (came t count genuine ∷ items) ticket =
    last_submitted_file found items ticket
last_submitted_file found (failed t ∷ items) ticket = last_submitted_file found items ticket
last_submitted_file found (nothing ∷ items) ticket = last_submitted_file found items ticket

abbrev pub file_under : List HistoryItem → Ticket → Option ℕ
file_under given ticket = last_submitted_file None given ticket

-- the bytes are those of a file at the place of a piece
abbrev pub IsPieceOf : List File → Option ℕ → ℕ → List ℕ → Type 0
IsPieceOf files None index bytes = ⊥
IsPieceOf files (Some file) index bytes =
    bytes ≡ piece_of (file_bytes (slice_index_or files file missing)) index

-- what an answer adds to the history so far
abbrev pub IsItemOfAnswer : {A : Type 0} → List File → List HistoryItem → Option (Completion A)
    → HistoryItem → Type 0
IsItemOfAnswer files given None item = item ≡ nothing
IsItemOfAnswer files given (Some (Fault ticket)) item = item ≡ failed ticket
IsItemOfAnswer files given (Some (Piece ticket bytes)) item =
    (genuine : Bool) × (item ≡ came ticket (length bytes.items) genuine)
    × ((genuine ≡ true) ↔ IsPieceOf files (file_under given ticket) ticket.piece bytes.items)
