use Rattle.std.proofs.Common.{◌∙◌, drop, refl, subst, sym, List, arith}
use Rattle.std.proofs.lemmas.Result.{err_from_is_err_and}
use Rattle.bl_store.specs.History.{HistoryItem}
use Rattle.bl_session.specs.session.Submissions.{piece_submissions}
use Rattle.bl_session.specs.internal.session.Submitted.{AreAskedButRest}
use Rattle.bl_session.proofs.session_lemmas.AskLemmas.{asked_none, asked_piece, asked_pieces}
use Rattle.bl_session.proofs.session.submissions.submit_file.Goals as goal

pub loop-piece-init : goal.loop-piece-init
loop-piece-init g c = record {
  asked =
      asked_none (piece_submissions c.args.attempt c.args.place c.args.file c.args.count)
      (g.S.Store.given c.args.store.now);
  files = refl;
}

pub loop-piece-preserved : goal.loop-piece-preserved
loop-piece-preserved g c = record {
  asked =
      asked_piece c.args.attempt c.args.place c.args.file c.args.count c.loop-piece.piece
      (g.S.Store.given c.args.store.now) (g.S.Store.given c.loop-piece.store)
      (g.S.Store.given c.submit.new.self)
      c.loop-piece-test.true c.loop-piece.invariant.asked c.in_ok-submit.ensures.given;
  files = c.submit.ensures.files ∙ c.loop-piece.invariant.files;
}

pub returns-in_err-submit-clause-asked : goal.returns-in_err-submit-clause-asked
returns-in_err-submit-clause-asked g c =
    let attempt_submissions =
    piece_submissions c.args.attempt c.args.place c.args.file c.args.count in
    let p = err_from_is_err_and c.from_residual.result c.from_residual.ensures.1 in
    rw p.1 (
      drop c.loop-piece.piece attempt_submissions,
      subst
          (λ (given : List HistoryItem).
          AreAskedButRest attempt_submissions (drop c.loop-piece.piece attempt_submissions)
          (g.S.Store.given c.args.store.now)
          given) (sym c.in_err-submit.ensures.err.0) c.loop-piece.invariant.asked,
    )

pub returns-in_err-submit-clause-files : goal.returns-in_err-submit-clause-files
returns-in_err-submit-clause-files g c = c.submit.ensures.files ∙ c.loop-piece.invariant.files

pub returns-clause-asked : goal.returns-clause-asked
returns-clause-asked g c =
    asked_pieces c.args.attempt c.args.place c.args.file c.args.count c.loop-piece.piece
    (g.S.Store.given c.args.store.now) (g.S.Store.given c.loop-piece.store) (omega arith)
    c.loop-piece.invariant.asked
