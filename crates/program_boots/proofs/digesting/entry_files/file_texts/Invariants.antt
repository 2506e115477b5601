use Rattle.std.proofs.Common.{◌≡◌, map, take}
use Rattle.bl_stage.specs.Files.{stored_files}
use Rattle.program_boots.specs.EntryPlans.{file_texts}
use Rattle.program_boots.proofs.digesting.entry_files.file_texts.Given as goal

-- so far
abbrev pub invariant-loop-file : goal.invariant-loop-file
invariant-loop-file g l =
    map (λ t. t.bytes.now) l.texts.items
    ≡ file_texts (stored_files l.files) (take l.file-index l.indices)
