use Rattle.std.proofs.Common.{◌∙◌, None, Some, sym, arith}
use Rattle.bl_stage.specs.PieceStates.{piece_states}
use Rattle.bl_session.proofs.attempt_lemmas.RequestLemmas.{from_is, from_past}
use Rattle.bl_session.proofs.attempt.missing_pieces.missing_from.Goals as goal

pub piece_from-requires-clause-small : goal.piece_from-requires-clause-small
piece_from-requires-clause-small g c = c.requires.small

pub returns-then-place-files : goal.returns-then-place-files
returns-then-place-files g c = record {
  first = λ bytes.
      from_past c.args.attempt bytes c.args.stage.now c.args.file c.args.piece (omega arith);
  missing = tt;
}

pub returns-in-Some : goal.returns-in-Some
returns-in-Some g c = record {
  first = λ bytes.
      from_is c.args.attempt (piece_states bytes c.args.stage.now) c.args.file c.args.piece
      (Some c.in-Some.piece)
      (sym c.in-Some.is ∙ c.piece_from.ensures.first bytes);
  missing = c.in-Some.ensures.missing;
}

pub returns-in-None : goal.returns-in-None
returns-in-None g c = record {
  first = λ bytes.
      c.ticket_from.ensures.first bytes
      ∙ from_is c.args.attempt (piece_states bytes c.args.stage.now) c.args.file c.args.piece None
      (sym c.in-None.is ∙ c.piece_from.ensures.first bytes);
  missing = c.ticket_from.ensures.missing;
}
