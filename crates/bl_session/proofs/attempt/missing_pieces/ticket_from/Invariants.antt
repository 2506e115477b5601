use Rattle.std.proofs.Common.{◌≡◌, ℕ, List, drop}
use Rattle.bl_stage.specs.PieceStates.{piece_states}
use Rattle.bl_session.specs.attempt.AwaitedTickets.{first_ticket}
use Rattle.bl_session.proofs.attempt.missing_pieces.ticket_from.Given as goal

-- the first is of no file before this one
abbrev pub invariant-loop-place : goal.invariant-loop-place
invariant-loop-place g l =
    (bytes : List ℕ)
    → first_ticket l.attempt l.start (drop l.start (piece_states bytes l.stage))
    ≡ first_ticket l.attempt l.place (drop l.place (piece_states bytes l.stage))
