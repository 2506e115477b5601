-- Tickets of an attempt's pieces: which one is awaited first, or next, and what is asked for. Own.
use Rattle.std.specs.Prelude.{ℕ, ◌+◌, List, [], ◌∷◌, drop, slice_index_or, Option, None, Some}
use Rattle.bl_stage.specs.PieceStates.{PieceState, lacks, has}
use Rattle.bl_store.specs.declared.ticket.Ticket.{Ticket}
use Rattle.bl_session.specs.declared.attempt.request.Request.{Request}
use Rattle.bl_session.specs.attempt.AwaitedPieces.{piece_state_of}

-- the ticket of a piece of the file at this place of an entry
abbrev pub ticket_of : (attempt place piece : ℕ) → Ticket
ticket_of attempt place piece = record { attempt = attempt; file = place; piece = piece }

-- ---- the first piece that is awaited: files ascending, and in each of them pieces ascending

abbrev pub first_awaited_piece : (piece : ℕ) → List PieceState → Option ℕ
first_awaited_piece piece [] = None
first_awaited_piece piece (lacks size ∷ states) = Some piece
first_awaited_piece piece (has bytes ∷ states) = first_awaited_piece (piece + 1) states

abbrev pub ticket_or : (attempt place : ℕ) → Option Ticket → Option ℕ → Option Ticket
ticket_or attempt place others None = others
ticket_or attempt place others (Some piece) = Some (ticket_of attempt place piece)

abbrev pub first_ticket : (attempt place : ℕ) → List (List PieceState) → Option Ticket
first_ticket attempt place [] = None
first_ticket attempt place (states ∷ files) =
    ticket_or attempt place (first_ticket attempt (place + 1) files)
    (first_awaited_piece 0 states)

-- the ticket of the first piece that is awaited after that of a ticket: in its file, or else in the
-- files after it
abbrev pub ticket_after : (attempt : ℕ) → List (List PieceState) → Ticket → Option Ticket
ticket_after attempt files ticket =
    ticket_or attempt ticket.file
    (first_ticket attempt (ticket.file + 1) (drop (ticket.file + 1) files))
    (first_awaited_piece (ticket.piece + 1)
    (drop (ticket.piece + 1) (slice_index_or files ticket.file [])))

-- how many bytes a piece has that is awaited
abbrev pub length_awaited : PieceState → ℕ
length_awaited (lacks size) = size
length_awaited (has bytes) = 0

-- what is asked for under a ticket: the entry's file at its place, by its index in the menu
abbrev pub request_for : (indices : List ℕ) → List (List PieceState) → Ticket → Request
request_for indices files ticket = record {
  file = slice_index_or indices ticket.file 0;
  ticket = ticket;
  len = length_awaited (piece_state_of files ticket.file ticket.piece);
}
