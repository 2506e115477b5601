use Rattle.bl_stage.specs.PieceStates.{piece_states}
use Rattle.bl_session.specs.menu.Menu.{files_of}
use Rattle.bl_session.proofs.attempt_lemmas.RequestLemmas.{request_is}
use Rattle.bl_session.proofs.attempt.missing_pieces.request_of.Goals as goal

pub returns-in-Some : goal.returns-in-Some
returns-in-Some g c = λ bytes.
    request_is (files_of c.args.entry.now) (piece_states bytes c.args.stage.now) c.in-Some.ticket
    c.args.found c.file_at.result c.missing_length.result c.in-Some.is (c.file_at.ensures 0)
    (c.missing_length.ensures bytes)
