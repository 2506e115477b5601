-- The names that are looked for.
use Rattle.std.proofs.Common.{◌≡◌, ◌∙◌, ◌+◌, ◌*◌, ◌<◌, ◌≤◌, ◌^◌, ℕ, zero, suc, List, [], ◌∷◌, ◌++◌}
use Rattle.std.proofs.Common.{Bor}
use Rattle.std.proofs.Common.{Bool, true, false, Result, Ok, Err, IfOk, None, Some, if◌then◌else◌}
use Rattle.std.proofs.Common.{length, map, drop, get_or, ap, sym, refl, arith, append_assoc}
use Rattle.std.specs.Str.{bytes_eq}
use Rattle.std.specs.List.{list_any}
use Rattle.std.specs.List.{flat_map}
use Rattle.std.proofs.lemmas.List.{map-append, length-append, length-map, at_drop_more, at_drop_all}
use Rattle.bl_session.specs.menu.AttemptOrder.{attempt_order}
use Rattle.bl_session.proofs.menu_lemmas.OnceLemmas.{few_attempts}
use Rattle.program_desc.specs.declared.desc.Description.{Description}
use Rattle.program_desc.specs.declared.entry_row.EntryRow.{EntryRow}
use Rattle.program_desc.specs.declared.entry_form.EntryForm.{EntryForm}
use Rattle.program_desc.specs.declared.entry_form.EntryForm.TheVariants.{Multiboot2, Linux}
use Rattle.program_desc.specs.declared.entry_form.ModuleRow.{ModuleRow}
use Rattle.program_desc.specs.Views.{HasMenu, entry_view, form_view, module_view, view}
use Rattle.bl_session.specs.menu.AttemptOrder.{without_repeats_by}
use Rattle.program_boots.specs.described.DescribedMenu.{absent_entry, described_entry}
use Rattle.program_boots.specs.described.DescribedMenu.{attempted_file_names}
use Rattle.program_boots.specs.described.DistinctNames.{with_new_names}
use Rattle.program_desc.specs.EntryNames.{file_names, names_beside}

-- names as they are kept
abbrev pub texts : List (Bor (List ℕ)) → List (List ℕ)
texts names = map (λ n. n.now) names

-- a test of names as they are kept
any_text : (names : List (Bor (List ℕ))) (name : List ℕ)
    → list_any (λ n. bytes_eq n name) (texts names) ≡ list_any (λ n. bytes_eq n.now name) names
any_text [] name = refl
any_text (n ∷ names) name = rw (any_text names name) refl

-- a name that is new is added
pub name_new : (names : List (Bor (List ℕ))) (name : Bor (List ℕ)) (rest : List (List ℕ))
    → list_any (λ n. bytes_eq n.now name.now) names ≡ false
    → with_new_names (texts (names ++ name ∷ [])) rest ≡ with_new_names (texts names) (name.now ∷ rest)
name_new names name rest is = rw (map-append, any_text names name.now, is, append_assoc) refl

-- one that is there is left out
pub name_there : (names : List (Bor (List ℕ))) (name : Bor (List ℕ)) (rest : List (List ℕ))
    → list_any (λ n. bytes_eq n.now name.now) names ≡ true
    → with_new_names (texts names) rest ≡ with_new_names (texts names) (name.now ∷ rest)
name_there names name rest is = rw (any_text names name.now, is) refl

-- ---- the names of modules' files

abbrev files_of : {A : Type 0} → List (ModuleRow A) → List (List ℕ)
files_of modules = map (λ m. m.file) (map module_view modules)

-- one more is added, where `name` is that of its file
pub one_more_module : {A : Type 0} (start before after : List (List ℕ))
    (modules : List (ModuleRow A)) (i : ℕ) (m : ModuleRow A) (name : List ℕ)
    → i < length modules → m ≡ get_or modules i m → name ≡ m.file
    → ((rest : List (List ℕ)) → with_new_names after rest ≡ with_new_names before (name ∷ rest))
    → ((rest : List (List ℕ)) → with_new_names before (files_of (drop i modules) ++ rest)
    ≡ with_new_names start (files_of modules ++ rest))
    → (rest : List (List ℕ)) → with_new_names after (files_of (drop (i + 1) modules) ++ rest)
    ≡ with_new_names start (files_of modules ++ rest)
one_more_module start before after modules i m name within at_i named added so_far rest =
    let left = files_of (drop (i + 1) modules) in
    let here : files_of (drop i modules) ≡ name ∷ left =
    at_drop_more files_of modules i m within
    ∙ ap (λ (x : ModuleRow _). x.file ∷ left) (sym at_i)
    ∙ ap (λ (n : List ℕ). n ∷ left) (sym named) in
    added (left ++ rest)
    ∙ ap (λ (files : List (List ℕ)). with_new_names before (files ++ rest)) (sym here)
    ∙ so_far rest

-- after the last one all are
pub all_modules : {A : Type 0} (start after : List (List ℕ)) (modules : List (ModuleRow A)) (i : ℕ)
    → length modules ≤ i
    → ((rest : List (List ℕ)) → with_new_names after (files_of (drop i modules) ++ rest)
    ≡ with_new_names start (files_of modules ++ rest))
    → (rest : List (List ℕ)) → with_new_names after rest ≡ with_new_names start (files_of modules ++ rest)
all_modules start after modules i past so_far rest =
    ap (λ (files : List (List ℕ)). with_new_names after (files ++ rest))
    (sym (at_drop_all files_of modules i past))
    ∙ so_far rest

-- ---- how many

few_beside : {A : Type 0} (form : EntryForm A) → length (names_beside (form_view form)) ≤ 64
few_beside (Multiboot2 modules rsdp_old rsdp_new) =
    let few = modules.few in
    rw (length-map, length-map) few
few_beside (Linux None wide) = omega arith
few_beside (Linux (Some file) wide) = omega arith

few_files : {A : Type 0} (row : EntryRow A) → length (file_names (entry_view row)) ≤ 65
few_files row = let few = few_beside row.form in omega (arith, few)

few_at : {A : Type 0} (rows : List (EntryRow A)) (index : ℕ)
    → length (file_names (get_or (map entry_view rows) index absent_entry)) ≤ 65
few_at [] index = omega arith
few_at (row ∷ rows) zero = few_files row
few_at (row ∷ rows) (suc index) = few_at rows index

few_together : {A : Type 0} (d : Description A) (indices : List ℕ)
    → length (flat_map (λ index. file_names (described_entry (view d) index)) indices)
    ≤ length indices * 65
few_together d [] = omega arith
few_together d (index ∷ indices) =
    let here = few_at d.entries.items index in
    let rest = few_together d indices in
    rw length-append (omega (arith, here, rest))

few_if : (b : Bool) (name : List ℕ) (rest kept names : List (List ℕ)) → length rest ≤ length names
    → length kept ≤ length names
    → length (if b then rest else name ∷ kept) ≤ length (name ∷ names)
few_if true name rest kept names r k = omega (arith, r)
few_if false name rest kept names r k = omega (arith, k)

few_once : (earlier names : List (List ℕ)) → length (without_repeats_by bytes_eq earlier names) ≤ length names
few_once earlier [] = omega arith
few_once earlier (name ∷ names) =
    few_if (list_any (λ n. bytes_eq n name) earlier) name (without_repeats_by bytes_eq earlier names)
    (without_repeats_by bytes_eq (earlier ++ name ∷ []) names) names
    (few_once earlier names) (few_once (earlier ++ name ∷ []) names)

pub few_names : {A : Type 0} (d : Description A) → HasMenu d → length (attempted_file_names (view d)) ≤ 32 * 65
few_names d menu =
    let indices : List ℕ = attempt_order d.default d.fallbacks.items in
    let attempts =
    few_attempts (length d.entries.items) d.default d.fallbacks.items menu.2 menu.3 in
    let once = few_once [] (flat_map (λ index. file_names (described_entry (view d) index)) indices) in
    let all = few_together d indices in
    let entries = menu.1 in
    omega (arith, attempts, once, all, entries)

-- as many names are kept as are looked for
pub as_many : (names : List (Bor (List ℕ))) (those : List (List ℕ)) → texts names ≡ those
    → length names ≡ length those
as_many names those is =
    let kept : length (texts names) ≡ length names = rw length-map refl in
    sym kept ∙ ap length is

-- so few names have places of 32 bits
pub few_seen : (names seen : List (Bor (List ℕ))) → seen ≡ names → length names ≤ 32 * 65
    → length seen < 2 ^ 32
few_seen names seen same few = rw same (omega (arith, few))

-- and the misses of so few are counted
pub few_missing : (faults : ℕ) (names seen : List (Bor (List ℕ))) → seen ≡ names
    → length names ≤ 32 * 65 → faults < 2 ^ 63 → faults + length seen < 2 ^ 64
few_missing faults names seen same few sound = rw same (omega (arith, few, sound))

pub few_kept : {T E : Type 0} (items : T → List (Bor (List ℕ))) (those : List (List ℕ)) (most : ℕ)
    (names : Result T E)
    → IfOk names (λ n. texts (items n) ≡ those) → length those ≤ most
    → IfOk names (λ n. length (items n) ≤ most)
few_kept items those most (Ok n) is few = rw (as_many (items n) those is) few
few_kept items those most (Err e) is few = tt
