use Rattle.std.proofs.Common.{◌∙◌, refl, arith}
use Rattle.std.proofs.lemmas.Result.{err_from_is_err_and}
use Rattle.bl_session.specs.menu.Menu.{files_of}
use Rattle.bl_session.proofs.session_lemmas.AskLemmas.{asked_none}
use Rattle.bl_session.proofs.session_lemmas.AskFileLemmas.{sized_orders, asked_file, asked_some}
use Rattle.bl_session.proofs.session_lemmas.AskFileLemmas.{asked_files}
use Rattle.bl_session.proofs.session_lemmas.AskFileLemmas.{asked_sized}
use Rattle.bl_session.proofs.session.submissions.submit_files.Goals as goal

pub loop-place-init : goal.loop-place-init
loop-place-init g c = record {
  asked =
      asked_none (sized_orders c.args.attempt 0 (files_of c.args.entry.now) c.args.stage.now.sizes)
      (g.S.Store.given c.args.store.now);
  files = refl;
}

pub loop-place-preserved : goal.loop-place-preserved
loop-place-preserved g c =
    let given = g.S.Store.given in
    record {
      asked =
          asked_file c.args.attempt c.loop-place.place c.file_at-file.result c.pieces_of.result
          (files_of c.args.entry.now) c.args.stage.now.sizes
          (given c.args.store.now) (given c.loop-place.store) (given c.submit_file.new.store)
          (omega (arith, c.files-place-end.ensures, c.requires.files))
          (omega (arith, c.files-place-end.ensures)) (c.file_at-file.ensures 0)
          c.pieces_of.ensures
          c.loop-place.invariant.asked c.in_ok-submit_file.ensures.asked;
      files = c.submit_file.ensures.files ∙ c.loop-place.invariant.files;
    }

pub returns-in_err-submit_file-clause-asked : goal.returns-in_err-submit_file-clause-asked
returns-in_err-submit_file-clause-asked g c =
    let given = g.S.Store.given in
    let p = err_from_is_err_and c.from_residual.result c.from_residual.ensures.1 in
    rw p.1 (λ bytes.
    asked_sized bytes c.args.stage.now c.args.attempt (files_of c.args.entry.now)
    (given c.args.store.now) (given c.submit_file.new.store)
    (asked_some c.args.attempt c.loop-place.place c.file_at-file.result c.pieces_of.result
    (files_of c.args.entry.now) c.args.stage.now.sizes
    (given c.args.store.now) (given c.loop-place.store) (given c.submit_file.new.store)
    (omega (arith, c.files-place-end.ensures, c.requires.files))
    (omega (arith, c.files-place-end.ensures)) (c.file_at-file.ensures 0) c.pieces_of.ensures
    c.loop-place.invariant.asked c.in_err-submit_file.ensures.asked))

pub returns-clause-asked : goal.returns-clause-asked
returns-clause-asked g c = λ bytes.
    asked_files bytes c.args.stage.now c.args.attempt c.loop-place.place (files_of c.args.entry.now)
    (g.S.Store.given c.args.store.now) (g.S.Store.given c.loop-place.store)
    (omega (arith, c.files-place-end.ensures, c.requires.files)) c.loop-place.invariant.asked
