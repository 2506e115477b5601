use Rattle.std.proofs.Common.{◌≡◌, ℕ, List, [], drop, slice_index_or}
use Rattle.bl_stage.specs.PieceStates.{piece_states}
use Rattle.bl_session.specs.attempt.AwaitedTickets.{first_awaited_piece}
use Rattle.bl_session.proofs.attempt.missing_pieces.piece_from.Given as goal

-- the first is none of those before this one
abbrev pub invariant-loop-piece : goal.invariant-loop-piece
invariant-loop-piece g l =
    (bytes : List ℕ)
    → first_awaited_piece l.start (drop l.start
    (slice_index_or (piece_states bytes l.stage) l.place []))
    ≡ first_awaited_piece l.piece (drop l.piece
    (slice_index_or (piece_states bytes l.stage) l.place []))
