use Rattle.std.proofs.Common.{◌≡◌, drop}
use Rattle.bl_session.specs.session.Submissions.{piece_submissions}
use Rattle.bl_session.specs.internal.session.Submitted.{AreAskedButRest}
use Rattle.bl_session.proofs.session.submissions.submit_file.Given as goal

-- all but the pieces from this one on were asked for
abbrev pub invariant-loop-piece : goal.invariant-loop-piece
invariant-loop-piece g l =
    let attempt_submissions = piece_submissions l.attempt l.place l.file l.count in
    record {
      asked : AreAskedButRest attempt_submissions (drop l.piece attempt_submissions)
          (g.S.Store.given l.fn.store)
          (g.S.Store.given l.store);
      files : g.S.Store.files l.store ≡ g.S.Store.files l.fn.store;
    }
