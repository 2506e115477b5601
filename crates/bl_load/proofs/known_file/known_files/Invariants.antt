use Rattle.std.proofs.Common.{◌≡◌, ◌∷◌, take, map}
use Rattle.bl_load.specs.internal.KnownFiles.{blank_file, known_bytes}
use Rattle.bl_load.proofs.known_file.known_files.Given as goal

-- the files so far
abbrev pub invariant-loop-size : goal.invariant-loop-size
invariant-loop-size g l = map (known_bytes g.V.ByteView.bytes) l.files.items
    ≡ g.V.ByteView.bytes l.fn.kernel ∷ map blank_file (take l.size-index l.lengths)
