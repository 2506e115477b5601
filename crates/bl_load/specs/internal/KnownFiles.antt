-- Files of which the bytes or the length alone are known.
use Rattle.std.specs.Prelude.{ℕ, List, replicate}
use Rattle.bl_load.specs.declared.known_file.KnownFile.{KnownFile}
use Rattle.bl_load.specs.declared.known_file.KnownFile.TheVariants.{Whole, Length}

-- a file of this length, as good as any other
abbrev pub blank_file : ℕ → List ℕ
blank_file size = replicate size 0

-- the file's bytes; by its length alone those of a blank one
abbrev pub known_bytes : {V : Type 0} → (V → List ℕ) → KnownFile V → List ℕ
known_bytes bytes (Whole file) = bytes file.now
known_bytes bytes (Length size) = blank_file size
