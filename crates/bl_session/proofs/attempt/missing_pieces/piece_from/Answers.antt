use Rattle.std.proofs.Common.{◌∙◌, [], slice_index_or, sym, arith}
use Rattle.bl_stage.specs.PieceStates.{piece_states}
use Rattle.bl_session.proofs.attempt_lemmas.StoredLemmas.{missing_awaited}
use Rattle.bl_session.proofs.attempt_lemmas.MissingLemmas.{piece_here, piece_later, piece_none}
use Rattle.bl_session.proofs.attempt_lemmas.MissingLemmas.{length-file_piece_states}
use Rattle.bl_session.proofs.attempt.missing_pieces.piece_from.Goals as goal

pub loop-piece-preserved : goal.loop-piece-preserved
loop-piece-preserved g c = λ bytes.
    let stage = c.args.stage.now in
    let place = c.args.place in
    let long = length-file_piece_states bytes stage place c.requires.file in
    piece_later (slice_index_or (piece_states bytes stage) place []) c.loop-piece.piece _
    (omega (arith, long, c.pieces_of-piece-end.ensures))
    (sym (missing_awaited bytes stage place c.loop-piece.piece) ∙ sym c.is_missing.ensures
    ∙ c.if-is_missing.false) (c.loop-piece.invariant bytes)

pub returns-then-is_missing-clause-first : goal.returns-then-is_missing-clause-first
returns-then-is_missing-clause-first g c = λ bytes.
    let stage = c.args.stage.now in
    let place = c.args.place in
    let long = length-file_piece_states bytes stage place c.requires.file in
    piece_here (slice_index_or (piece_states bytes stage) place []) c.loop-piece.piece _
    (omega (arith, long, c.pieces_of-piece-end.ensures))
    (sym (missing_awaited bytes stage place c.loop-piece.piece) ∙ sym c.is_missing.ensures
    ∙ c.if-is_missing.true) (c.loop-piece.invariant bytes)

pub returns-clause-first : goal.returns-clause-first
returns-clause-first g c = λ bytes.
    let stage = c.args.stage.now in
    let place = c.args.place in
    let long = length-file_piece_states bytes stage place c.requires.file in
    piece_none (slice_index_or (piece_states bytes stage) place []) c.loop-piece.piece _
    (omega (arith, long, c.pieces_of-piece-end.ensures)) (c.loop-piece.invariant bytes)
