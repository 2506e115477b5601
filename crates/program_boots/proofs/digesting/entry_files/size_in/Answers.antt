use Rattle.std.proofs.Common.{◌≡◌, ◌∙◌, arith, get_or, sym}
use Rattle.std.proofs.lemmas.Grind.{common_steps}
use Rattle.bl_stage.specs.Files.{missing, size_of, stored_files}
use Rattle.bl_session.proofs.attempt_lemmas.EntryEndLemmas.{size_at}
use Rattle.program_boots.proofs.digesting.entry_files.size_in.Goals as goal

pub returns-in-Some : goal.returns-in-Some
returns-in-Some g c =
    let files = stored_files c.args.files.now in
    let found : c.size.result ≡ size_of (get_or files c.args.file missing) =
    grind (arith, common_steps) in
    found ∙ sym (size_at files c.args.file)
