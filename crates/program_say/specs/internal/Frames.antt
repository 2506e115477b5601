-- The frames of the pool that an entry's files take. Own.
use Rattle.std.specs.Prelude.{ℕ, ◌+◌, List, [], ◌∷◌, slice_get, unwrap_or, Option, Some, None}
use Rattle.bl_map.specs.PoolFrames.{frames_of}
use Rattle.program_desc.specs.Entries.{Entry}
use Rattle.program_desc.specs.EntryNames.{file_names}
use Rattle.program_say.specs.Sought.{SoughtFacts, size_found}

-- the names of the files of an entry, by its index in a menu
abbrev pub names_if : Option Entry → List (List ℕ)
names_if None = []
names_if (Some entry) = file_names entry

abbrev pub names_at : List Entry → ℕ → List (List ℕ)
names_at entries index = names_if (slice_get entries index)

-- the length of what was found for a name; what is missing has none
abbrev pub length_found : SoughtFacts → List ℕ → ℕ
length_found sought name = unwrap_or (size_found sought name) 0

-- how many frames the files of these names take, each in frames of its own
abbrev pub frames_wanted : SoughtFacts → List (List ℕ) → ℕ
frames_wanted sought [] = 0
frames_wanted sought (name ∷ names) =
    frames_of (length_found sought name) + frames_wanted sought names
