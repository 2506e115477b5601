use Rattle.std.proofs.Common.{Bool, ◌&&◌, sym, ap, ◌∙◌}
use Rattle.bl_stage.specs.PieceStates.{piece_states}
use Rattle.bl_session.specs.attempt.AwaitedPieces.{is_awaited, piece_state_of}
use Rattle.bl_session.proofs.attempt_lemmas.StoredLemmas.{missing_awaited}
use Rattle.bl_session.proofs.session.event_taking.awaits_fault.Goals as goal

pub returns-then-is_of : goal.returns-then-is_of
returns-then-is_of g c = λ bytes.
    let stage = c.args.running.now.stage in
    let ticket = c.args.ticket in
    c.is_missing.ensures ∙ missing_awaited bytes stage ticket.file ticket.piece
    ∙ sym
    (ap (λ (b : Bool). b && is_awaited
    (piece_state_of (piece_states bytes stage) ticket.file ticket.piece))
    (sym c.is_of.ensures ∙ c.if-is_of.true))
