use Rattle.std.proofs.Common.{arith}
use Rattle.bl_session.proofs.attempt_lemmas.RequestLemmas.{missing_named, missing_length}
use Rattle.bl_session.proofs.attempt.missing_pieces.missing_length.Goals as goal

pub size_of-size-requires : goal.size_of-size-requires
size_of-size-requires g c =
    (missing_named c.args.stage.now c.args.ticket.file c.args.ticket.piece c.requires.missing).0

pub returns : goal.returns
returns g c = λ bytes.
    let long =
    missing_length bytes c.args.stage.now c.args.ticket.file c.args.ticket.piece
    c.requires.missing in
    omega (arith, long)
