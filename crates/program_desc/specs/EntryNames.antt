-- The names of an entry's files, and a file's place among names. Own.
use Rattle.std.specs.Prelude.{ℕ, ◌+◌, List, [], ◌∷◌, ◌++◌, map, option_to_list, if◌then◌else◌}
use Rattle.std.specs.Str.{bytes_eq}
use Rattle.program_desc.specs.Entries.{Entry, Form}

-- the names of the files beside the kernel, in order: that of the initial ramdisk, or those of the
-- modules
abbrev pub names_beside : Form → List (List ℕ)
names_beside form = option_to_list form.initrd ++ map (λ m. m.file) form.modules

-- the names of an entry's files, in order: the kernel's, then those beside it; one may be named
-- twice
abbrev pub file_names : Entry → List (List ℕ)
file_names entry = entry.kernel ∷ names_beside entry.form

-- the index of a file: the place of its name among these. A name that is not looked for, since its
-- entry is not attempted, has the place after the last
abbrev pub file_index : List (List ℕ) → List ℕ → ℕ
file_index [] name = 0
file_index (n ∷ names) name = if bytes_eq n name then 0 else 1 + file_index names name
