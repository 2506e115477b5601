-- What a search for missing pieces needs, and what it finds.
use Rattle.std.specs.Prelude.{◌≡◌, ℕ, ◌^◌, ◌<◌, true, List, length, Option, IfSome}
use Rattle.bl_stage.specs.Staged.{Staging}
use Rattle.bl_stage.specs.Pieces.{is_missing}
use Rattle.bl_stage.specs.PieceStates.{PieceState, piece_states}
use Rattle.bl_store.specs.declared.ticket.Ticket.{Ticket}
use Rattle.bl_session.specs.internal.attempt.Cursors.{NoneMissingBelow}
use Rattle.bl_session.specs.internal.session.KeptPhases.{HasSmallFiles}

-- files and their pieces are counted in 32 bits
pub record HasCountablePieces (stage : Staging) : Type 0 where
  pub few : length stage.sizes < 2 ^ 32
  pub small : HasSmallFiles stage

-- a search from this file and this piece on finds each missing piece
pub record CanSearchFrom (stage : Staging) (file piece : ℕ) : Type 0 where
  pub countable : HasCountablePieces stage
  pub below : NoneMissingBelow stage file piece

-- a search answered what this definition finds in the states of all pieces: a missing one, or none
pub record FindsMissing (stage : Staging) (find : List (List PieceState) → Option Ticket)
    (found : Option Ticket) : Type 0 where
  pub first : (bytes : List ℕ) → found ≡ find (piece_states bytes stage)
  pub missing : IfSome found (λ ticket. is_missing stage ticket.file ticket.piece ≡ true)
