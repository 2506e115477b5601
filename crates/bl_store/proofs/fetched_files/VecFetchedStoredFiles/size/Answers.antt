use Rattle.std.proofs.Common.{◌∙◌, ap, arith, refl, sym}
use Rattle.bl_stage.specs.declared.fetched.Fetched.TheVariants.{Missing}
use Rattle.bl_stage.specs.Files.{file_of}
use Rattle.bl_store.proofs.FetchedLemmas.{stored_at}
use Rattle.bl_store.proofs.fetched_files.VecFetchedStoredFiles.size.Goals as goal

pub returns-in-Some : goal.returns-in-Some
returns-in-Some g c =
    let found = rw c.deref.ensures.value at (c.in-Some.ensures.lookup.3.1 Missing) in
    rw (stored_at c.args.self.now.items c.args.file ∙ ap file_of (sym found)) c.size.ensures

pub returns-in-None : goal.returns-in-None
returns-in-None g c =
    let none = rw c.deref.ensures.value
    at (c.in-None.ensures.lookup.4 (omega arith) Missing) in
    rw (stored_at c.args.self.now.items c.args.file ∙ ap file_of (sym none)) refl
