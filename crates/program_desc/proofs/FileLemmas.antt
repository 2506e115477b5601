-- Looking for a name among files, one file after the other.
use Rattle.std.proofs.Common.{◌≡◌, ℕ, ◌+◌, ◌<◌, Bool, Some, List}
use Rattle.std.proofs.Common.{◌∷◌, length, map, drop, get_or, refl}
use Rattle.std.specs.Prelude.{if◌then◌else◌}
use Rattle.std.proofs.lemmas.List.{at_drop_more}
use Rattle.std.specs.Str.{bytes_eq}
use Rattle.program_desc.specs.Described.{file_named}
use Rattle.program_desc.specs.Views.{file_view}
use Rattle.program_desc.specs.declared.file_row.FileRow.{FileRow}

-- what a function says of the files from an index on, by the file at that index
from_here : {A Y : Type 0} (F : List (FileRow A) → Y) (files : List (FileRow A)) (i : ℕ)
    (f : FileRow A) → i < length files → f ≡ get_or files i f
    → F (drop i files) ≡ F (f ∷ drop (i + 1) files)
from_here F files i f within at_i = rw (at_drop_more F files i f within, ← at_i) refl

pub file_named-step : {A : Type 0} (name : List ℕ) (files : List (FileRow A)) (i : ℕ)
    (f : FileRow A) (same : Bool)
    → i < length files → f ≡ get_or files i f → same ≡ bytes_eq f.name name
    → file_named name (map file_view (drop i files))
    ≡ (if same then Some f.bytes else file_named name (map file_view (drop (i + 1) files)))
file_named-step name files i f same within at_i is =
    rw (from_here (λ fs. file_named name (map file_view fs)) files i f within at_i, is) refl
