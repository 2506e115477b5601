-- The cursor over an attempt's pieces, below which none is missing.
use Rattle.std.specs.Prelude.{◌≡◌, ℕ, ◌+◌, ◌<◌, false, List, [], drop, slice_index_or, Option}
use Rattle.bl_stage.specs.Staged.{Staging}
use Rattle.bl_stage.specs.Pieces.{is_missing}
use Rattle.bl_stage.specs.PieceStates.{PieceState}
use Rattle.bl_store.specs.declared.ticket.Ticket.{Ticket}
use Rattle.bl_session.specs.attempt.AwaitedTickets.{first_awaited_piece, first_ticket, ticket_or}

-- none is missing of the files before this one, nor in it before this piece
pub record NoneMissingBelow (stage : Staging) (file piece : ℕ) : Type 0 where
  pub files : (f k : ℕ) → f < file → is_missing stage f k ≡ false
  pub pieces : (k : ℕ) → k < piece → is_missing stage file k ≡ false

-- the ticket of the first piece that is awaited, of this file from this piece on, or else of the
-- files after it
abbrev pub first_ticket_from : (attempt : ℕ) → List (List PieceState) → (file piece : ℕ)
    → Option Ticket
first_ticket_from attempt files file piece =
    ticket_or attempt file (first_ticket attempt (file + 1) (drop (file + 1) files))
    (first_awaited_piece piece (drop piece (slice_index_or files file [])))
