use Rattle.std.proofs.Common.{◌≡◌, drop, map}
use Rattle.program_desc.specs.Views.{file_view}
use Rattle.program_desc.specs.Described as spec
use Rattle.program_desc.proofs.desc.file_named.Given as goal

abbrev pub invariant-loop-file : goal.invariant-loop-file
invariant-loop-file g l =
    spec.file_named l.name (map file_view (drop l.file-index l.files))
    ≡ spec.file_named l.name (map file_view l.files)
