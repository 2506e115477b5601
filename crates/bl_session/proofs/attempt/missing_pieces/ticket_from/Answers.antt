use Rattle.std.proofs.Common.{◌∙◌, arith, sym}
use Rattle.bl_session.proofs.attempt_lemmas.MissingLemmas.{ticket_here, ticket_none}
use Rattle.bl_session.proofs.attempt.missing_pieces.ticket_from.Goals as goal

pub piece_from-requires-clause-small : goal.piece_from-requires-clause-small
piece_from-requires-clause-small g c = c.requires.small

pub returns-in-Some : goal.returns-in-Some
returns-in-Some g c = record {
  first = λ bytes.
      ticket_here c.args.attempt c.loop-place.place c.in-Some.piece bytes c.args.stage.now _
      (omega (arith, c.files-place-end.ensures))
      (sym c.in-Some.is ∙ c.piece_from.ensures.first bytes) (c.loop-place.invariant bytes);
  missing = c.in-Some.ensures.missing;
}

pub returns : goal.returns
returns g c = record {
  first = λ bytes.
      ticket_none c.args.attempt c.loop-place.place bytes c.args.stage.now _
      (omega (arith, c.files-place-end.ensures)) (c.loop-place.invariant bytes);
  missing = tt;
}
