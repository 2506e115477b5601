-- What was found for the names of files. Own.
use Rattle.std.specs.Prelude.{ℕ, List, slice_index_or, Option}
use Rattle.bl_stage.specs.Files.{File, missing, size_of, file_bytes}
use Rattle.program_desc.specs.EntryNames.{file_index}

-- the names that were looked for, and what was found for each of them
pub record SoughtFacts : Type 0 where
  pub names : List (List ℕ)
  pub files : List File

-- what was found for a name
abbrev pub file_found : SoughtFacts → List ℕ → File
file_found sought name = slice_index_or sought.files (file_index sought.names name) missing

-- its bytes; what is missing or too long has none
abbrev pub bytes_found : SoughtFacts → List ℕ → List ℕ
bytes_found sought name = file_bytes (file_found sought name)

-- its length in bytes, None if there is no such file
abbrev pub size_found : SoughtFacts → List ℕ → Option ℕ
size_found sought name = size_of (file_found sought name)
