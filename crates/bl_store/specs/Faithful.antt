-- A store that answers each ticket once, with the piece that was asked for. Own.
use Rattle.std.specs.Prelude.{◌≡◌, ℕ, ◌+◌, ◌*◌, ◌<◌, true, List, [], ◌∷◌, ◌++◌, length}
use Rattle.std.specs.Prelude.{slice_index_or, Option, None, Some, if◌then◌else◌}
use Rattle.bl_stage.specs.Files.{File, missing, file_bytes}
use Rattle.bl_store.specs.declared.ticket.Ticket.{Ticket}
use Rattle.bl_store.specs.History.{HistoryItem, submitted, came, failed, nothing, is_same}
use Rattle.bl_store.specs.History.{file_under}

-- how often a ticket was asked for
abbrev pub times_asked : List HistoryItem → Ticket → ℕ
times_asked [] ticket = 0
times_asked (submitted file t ∷ items) ticket =
    (if is_same t ticket then 1 else 0) + times_asked items ticket
times_asked (came t count genuine ∷ items) ticket = times_asked items ticket
times_asked (failed t ∷ items) ticket = times_asked items ticket
times_asked (nothing ∷ items) ticket = times_asked items ticket

-- how often it was answered
abbrev pub times_answered : List HistoryItem → Ticket → ℕ
times_answered [] ticket = 0
times_answered (submitted file t ∷ items) ticket = times_answered items ticket
times_answered (came t count genuine ∷ items) ticket =
    (if is_same t ticket then 1 else 0) + times_answered items ticket
times_answered (failed t ∷ items) ticket =
    (if is_same t ticket then 1 else 0) + times_answered items ticket
times_answered (nothing ∷ items) ticket = times_answered items ticket

-- the file has a piece of this index
abbrev pub HasPiece : List File → Option ℕ → ℕ → Type 0
HasPiece files None index = ⊥
HasPiece files (Some file) index =
    4096 * index < length (file_bytes (slice_index_or files file missing))

-- an answer after this history: to a ticket that has one to come; of a ticket that was asked for
-- once it is the piece, and a fault only if its file has no such piece; nothing more is to come
-- only if each ticket was answered as often as it was asked for
abbrev pub IsFaithfulItem : List File → List HistoryItem → HistoryItem → Type 0
IsFaithfulItem files given (submitted file ticket) = Unit {0}
IsFaithfulItem files given (came ticket count genuine) =
    (times_answered given ticket < times_asked given ticket)
    × (times_asked given ticket ≡ 1 → genuine ≡ true)
IsFaithfulItem files given (failed ticket) =
    (times_answered given ticket < times_asked given ticket)
    × (times_asked given ticket ≡ 1 → ¬ HasPiece files (file_under given ticket) ticket.piece)
IsFaithfulItem files given nothing =
    (ticket : Ticket) → times_answered given ticket ≡ times_asked given ticket

-- these items, after this history
abbrev pub IsFaithfulAfter : List File → List HistoryItem → List HistoryItem → Type 0
IsFaithfulAfter files given [] = Unit {0}
IsFaithfulAfter files given (item ∷ items) =
    IsFaithfulItem files given item × IsFaithfulAfter files (given ++ item ∷ []) items

-- a whole history
abbrev pub IsFaithful : List File → List HistoryItem → Type 0
IsFaithful files items = IsFaithfulAfter files [] items
