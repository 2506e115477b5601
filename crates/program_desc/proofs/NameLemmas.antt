-- Whether the names of files differ, by the names of those before.
use Rattle.std.proofs.Common.{◌≡◌, ◌+◌, ◌<◌, ℕ, Bool, true, false, not, ◌&&◌, ◌||◌, List, [], ◌∷◌}
use Rattle.std.proofs.Common.{◌++◌, length, map, take, get_or, cond, refl, sym, ap, ◌∙◌}
use Rattle.std.specs.Str.{bytes_eq}
use Rattle.std.proofs.lemmas.Cmp.{nat_list_eq_equiv}
use Rattle.std.proofs.lemmas.List.{take_more, map-append}
use Rattle.std.proofs.lemmas.List.Folds.{list_any-append}
use Rattle.program_desc.specs.Described.{InlineFile, has_file, names_differ}
use Rattle.program_desc.specs.Views.{file_view}
use Rattle.program_desc.specs.declared.file_row.FileRow.{FileRow}

-- the names of the files, and one more
names_push : (files : List InlineFile) (f : InlineFile)
    → names_differ (files ++ f ∷ []) ≡ (names_differ files && not (has_file f.name files))
names_push [] f = refl
names_push (g ∷ files) f =
    rw (list_any-append (λ h. bytes_eq h.name g.name) files (f ∷ []), names_push files f)
    (sort (has_file g.name files) (names_differ files) (has_file f.name files)
    (bytes_eq f.name g.name) (bytes_eq g.name f.name)
    (nat_list_eq_equiv.symm f.name g.name))
  where
    sort : (a d b e i : Bool) → e ≡ i
        → (not (a || (e || false)) && (d && not b)) ≡ ((not a && d) && not (i || b))
    sort true d b e i is = refl
    sort false d b true true is = cases d
      where
        cases : (d : Bool) → false ≡ (d && false)
        cases true = refl
        cases false = refl
    sort false d b false false is = refl
    sort false d b true false is = absurd cc
    sort false d b false true is = absurd cc

-- the first files, and one more
pub first_files : {A : Type 0} (files : List (FileRow A)) (i : ℕ) (f : FileRow A)
    → i < length files → f ≡ get_or files i f
    → map file_view (take (i + 1) files) ≡ map file_view (take i files) ++ file_view f ∷ []
first_files files i f within at_i =
    ap (map file_view) (take_more files i f within)
    ∙ map-append file_view (take i files) (get_or files i f ∷ [])
    ∙ ap (λ g. map file_view (take i files) ++ file_view g ∷ []) (sym at_i)

-- the names differ with one more file exactly if none had its name
pub differ_more : (before : List InlineFile) (f : InlineFile) (had : Bool)
    → names_differ before ≡ true → had ≡ has_file f.name before
    → names_differ (before ++ f ∷ []) ≡ not had
differ_more before f had differ is = rw (names_push before f, differ, is) refl

-- what is known of the first files' names is known with one more
pub has_more : (before : List InlineFile) (f : InlineFile) (name : List ℕ) (old new same : Bool)
    → old ≡ has_file name before → new ≡ cond same true old → same ≡ bytes_eq f.name name
    → new ≡ has_file name (before ++ f ∷ [])
has_more before f name old new same was now is =
    now ∙ rw (was, is) (either (has_file name before) (bytes_eq f.name name))
    ∙ sym (list_any-append (λ g. bytes_eq g.name name) before (f ∷ []))
  where
    either : (a b : Bool) → cond b true a ≡ (a || (b || false))
    either true true = refl
    either true false = refl
    either false true = refl
    either false false = refl
