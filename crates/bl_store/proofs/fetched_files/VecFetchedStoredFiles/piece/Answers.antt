use Rattle.std.proofs.Common.{◌∙◌, ap, arith, sym}
use Rattle.std.proofs.lemmas.Bool.{false≢true}
use Rattle.bl_stage.specs.declared.fetched.Fetched.TheVariants.{Missing}
use Rattle.bl_stage.specs.Files.{file_of}
use Rattle.bl_store.proofs.FetchedLemmas.{stored_at}
use Rattle.bl_store.proofs.fetched_files.VecFetchedStoredFiles.piece.Goals as goal

pub returns-in-Some-clause-some : goal.returns-in-Some-clause-some
returns-in-Some-clause-some g c =
    let found = rw c.deref.ensures.value at (c.in-Some.ensures.lookup.3.1 Missing) in
    rw (stored_at c.args.self.now.items c.args.file ∙ ap file_of (sym found)) c.piece.ensures.some

pub returns-in-Some-clause-piece : goal.returns-in-Some-clause-piece
returns-in-Some-clause-piece g c =
    let found = rw c.deref.ensures.value at (c.in-Some.ensures.lookup.3.1 Missing) in
    rw (stored_at c.args.self.now.items c.args.file ∙ ap file_of (sym found)) c.piece.ensures.piece

pub returns-in-None-clause-some : goal.returns-in-None-clause-some
returns-in-None-clause-some g c =
    let none = rw c.deref.ensures.value
    at (c.in-None.ensures.lookup.4 (omega arith) Missing) in
    rw (stored_at c.args.self.now.items c.args.file ∙ ap file_of (sym none)) (
      λ is. absurd (false≢true is),
      λ within. absurd (omega (arith, within)),
    )
