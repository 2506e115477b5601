use Rattle.bl_session.proofs.attempt.missing_pieces.next_missing.Goals as goal

pub returns : goal.returns
returns g c =
    record { first = c.missing_from.ensures.first; missing = c.missing_from.ensures.missing }
