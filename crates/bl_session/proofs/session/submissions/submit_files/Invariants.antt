use Rattle.std.proofs.Common.{◌≡◌, drop}
use Rattle.bl_session.specs.menu.Menu.{files_of}
use Rattle.bl_session.specs.internal.session.Submitted.{AreAskedButRest}
use Rattle.bl_session.proofs.session_lemmas.AskFileLemmas.{sized_orders}
use Rattle.bl_session.proofs.session.submissions.submit_files.Given as goal

-- all but the files from this place on were asked for
abbrev pub invariant-loop-place : goal.invariant-loop-place
invariant-loop-place g l =
    let files = files_of l.entry in
    record {
      asked : AreAskedButRest (sized_orders l.attempt 0 files l.stage.sizes)
          (sized_orders l.attempt l.place (drop l.place files) (drop l.place l.stage.sizes))
          (g.S.Store.given l.fn.store) (g.S.Store.given l.store);
      files : g.S.Store.files l.store ≡ g.S.Store.files l.fn.store;
    }
