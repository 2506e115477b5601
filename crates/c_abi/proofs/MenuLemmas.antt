-- The entries of a menu and its files, one entry more; and why there is no menu, by what was made of
-- its entries.
use Rattle.std.proofs.Common.{◌≡◌, ◌∙◌, ◌+◌, ◌<◌, ◌≤◌, ℕ, zero, suc, List, [], ◌∷◌, ◌++◌}
use Rattle.std.proofs.Common.{length, map, take, get_or, All, None, Some, refl, ap, sym, subst}
use Rattle.std.proofs.Common.{arith, add-one, length-append, inl, inr, true, false}
use Rattle.std.proofs.lemmas.List.{length-map, get_or-map, take_more, map_push, flat_map_more}
use Rattle.std.proofs.lemmas.List.Elements.{All-map}
use Rattle.std.proofs.lemmas.List.Sums.{AllPass-from_list_all}
use Rattle.std.proofs.lemmas.Simd.{map-map}
use Rattle.bl_plan.specs.MenuLimits.{max_entries}
use Rattle.bl_load.specs.declared.entry.Entry.{Entry}
use Rattle.bl_load.specs.declared.entry.Entry.TheVariants.{Multiboot2, Linux}
use Rattle.bl_load.specs.EntryValue.{HasLimits, IsWithinLimits, file_count, value_of}
use Rattle.bl_session.specs.menu.Menu.{EntryFacts, facts_of}
use Rattle.bl_session.specs.menu.MenuFaults.{AreWithinLimits, AreEntryIndices, HasMenuFault}
use Rattle.bl_session.specs.declared.menu.fault.MenuFault.{MenuFault}
use Rattle.bl_session.specs.declared.menu.fault.MenuFault.TheVariants as menu_faults
use Rattle.c_records.specs.declared.given_fault.GivenFault.{GivenFault}
use Rattle.c_records.specs.declared.given_fault.GivenFault.TheVariants.{Misused, NoMemory}
use Rattle.c_records.specs.declared.given_records.EntryRecord.{EntryRecord}
use Rattle.c_records.specs.declared.given_records.FileRecord.{FileRecord}
use Rattle.c_records.specs.Given.{files_given, entry_without_files}
use Rattle.c_records.specs.GivenChecks.{are_modules_few, have_few_modules}
use Rattle.c_records.specs.EntryFaults.{IsEntrySizeFault}
use Rattle.c_records.specs.MenuGiven.{menu_files, entry_facts_given, entries_facts}
use Rattle.c_records.specs.MenuGiven.{AreFewGiven, IsNoMenu, are_many, has_many_modules}
use Rattle.c_records.specs.MenuGiven.{has_long_rsdp, names_none, is_short}
use Rattle.c_abi.specs.internal.Menus.{AreNotTaken, given_fault_of_menu}

-- ---- one entry more

-- its files come after those so far
pub files_more : (rows : List EntryRecord) (i : ℕ) (d : EntryRecord) → i < length rows
    → menu_files (take (i + 1) rows) ≡ menu_files (take i rows) ++ files_given (get_or rows i d)
files_more rows i d within =
    ap menu_files (take_more rows i d within)
    ∙ sym (flat_map_more files_given [] (take i rows) (get_or rows i d))

-- so many more than those so far
pub more_files : (rows : List EntryRecord) (files after : List FileRecord) (i : ℕ) (d : EntryRecord)
    → i < length rows → after ≡ files ++ files_given (get_or rows i d)
    → files ≡ menu_files (take i rows) → after ≡ menu_files (take (i + 1) rows)
more_files rows files after i d within is so =
    is ∙ ap (λ (fs : List FileRecord). fs ++ files_given (get_or rows i d)) so
    ∙ sym (files_more rows i d within)

pub count_more : (rows : List EntryRecord) (i n m : ℕ) (d : EntryRecord) → i < length rows
    → n ≡ length (menu_files (take i rows)) → m ≡ length (files_given (get_or rows i d))
    → n + m ≡ length (menu_files (take (i + 1) rows))
count_more rows i n m d within so_far more =
    let all : length (menu_files (take (i + 1) rows))
    ≡ length (menu_files (take i rows)) + length (files_given (get_or rows i d)) =
    ap length (files_more rows i d within)
    ∙ length-append (menu_files (take i rows)) (files_given (get_or rows i d)) in
    omega (arith, all, so_far, more)

facts_next : (rows : List EntryRecord) (i : ℕ) (d : EntryRecord) (first n : ℕ) → i < length rows
    → n ≡ first + length (menu_files (take i rows))
    → entries_facts first (take (suc i) rows)
    ≡ entries_facts first (take i rows) ++ entry_facts_given n (get_or rows i d) ∷ []
facts_next [] i d first n within is = absurd (omega arith)
facts_next (row ∷ rows) zero d first n within is =
    let same : first ≡ n = omega (arith, is) in ap (λ m. entry_facts_given m row ∷ []) same
facts_next (row ∷ rows) (suc i) d first n within is =
    ap (λ facts. entry_facts_given first row ∷ facts)
    (facts_next rows i d (first + length (files_given row)) n (omega arith)
    (omega (arith, is, length-append (files_given row) (menu_files (take i rows)))))

-- the facts of the entries that were made
pub facts_more : {A : Type 0} (rows : List EntryRecord) (i n : ℕ) (d : EntryRecord)
    (typed after : List (Entry A)) (entry : Entry A) → i < length rows
    → n ≡ length (menu_files (take i rows)) → after ≡ typed ++ entry ∷ []
    → facts_of entry ≡ entry_facts_given n (get_or rows i d)
    → map facts_of typed ≡ entries_facts 0 (take i rows)
    → map facts_of after ≡ entries_facts 0 (take (i + 1) rows)
facts_more rows i n d typed after entry within count is facts so =
    ap (map facts_of) is ∙ map_push facts_of typed entry
    ∙ ap (λ (fs : List EntryFacts). fs ++ facts_of entry ∷ []) so
    ∙ ap (λ (f : EntryFacts). entries_facts 0 (take i rows) ++ f ∷ []) facts
    ∙ sym (rw add-one (facts_next rows i d 0 n within (omega (arith, count))))

-- an entry within its limits has few files
pub few_files : {A : Type 0} (entry : Entry A) → IsWithinLimits entry → file_count entry ≤ 65
unfolding IsWithinLimits
few_files (Multiboot2 kernel line modules rsdp_old rsdp_new) limits =
    let few = limits.few in omega (arith, few, length-map modules.items (λ m. m.line))
few_files (Linux kernel line None wide) limits = omega arith
few_files (Linux kernel line (Some initrd) wide) limits = omega arith

-- ---- the limits of all entries

-- where one is beyond its limits, though each has few modules, a copy of an RSDP of it is too long
pub size_fault_is : (rows : List EntryRecord) (i : ℕ) (d : EntryRecord) (fault : GivenFault)
    → i < length rows → length rows ≤ max_entries → have_few_modules rows ≡ true
    → IsEntrySizeFault (get_or rows i d) fault → AreNotTaken rows fault
size_fault_is rows i d (Misused misuse) within short few (inl (is, many)) =
    let e : true ≡ false =
    sym (AllPass-from_list_all are_modules_few rows few i d within) ∙ many in absurd cc
size_fault_is rows i d (Misused misuse) within short few (inr (is, has, not)) =
    inr (inr (is, short, few, λ all. not (all.1 i d within)))
size_fault_is rows i d NoMemory within short few is = tt

blanks : (first : ℕ) (rows : List EntryRecord)
    → map (λ f. f.blank) (entries_facts first rows) ≡ map entry_without_files rows
blanks first [] = refl
blanks first (row ∷ rows) =
    ap (λ values. entry_without_files row ∷ values)
    (blanks (first + length (files_given row)) rows)

-- the values of the entries that were made, with no files yet
values_made : {A : Type 0} (rows : List EntryRecord) (typed : List (Entry A))
    → map facts_of typed ≡ entries_facts 0 rows
    → map (value_of []) typed ≡ map entry_without_files rows
values_made rows typed is =
    sym (map-map (λ (f : EntryFacts). f.blank) facts_of typed)
    ∙ ap (map (λ (f : EntryFacts). f.blank)) is ∙ blanks 0 rows

-- as many entries as are given
pub entry_count : {A : Type 0} (rows : List EntryRecord) (typed : List (Entry A))
    → map facts_of typed ≡ entries_facts 0 rows → length typed ≡ length rows
entry_count rows typed is =
    sym (length-map typed (value_of [])) ∙ ap length (values_made rows typed is)
    ∙ length-map rows entry_without_files

all_unmapped : {X Y : Type 0} (P : Y → Type 0) (f : X → Y) (xs : List X) → All P (map f xs)
    → All (λ x. P (f x)) xs
all_unmapped P f xs all =
    λ k d h.
    subst P (get_or-map f xs k d (f d) h) (all k (f d) (omega (arith, h, length-map xs f)))

-- entries within their limits are few, and so are those that they were made of
pub few_given : {A : Type 0} (rows : List EntryRecord) (typed : List (Entry A))
    → map facts_of typed ≡ entries_facts 0 rows → AreWithinLimits typed → AreFewGiven rows
unfolding IsWithinLimits
few_given rows typed is small =
    let count = entry_count rows typed is in
    let most = small.0 in (
      omega (arith, count, most),
      all_unmapped HasLimits entry_without_files rows
          (subst (All HasLimits) (values_made rows typed is)
          (All-map HasLimits (value_of []) typed small.1)),
    )

-- ---- no menu

-- why these entries make none
pub no_menu_is : {A : Type 0} (rows : List EntryRecord) (default : ℕ) (fallbacks : List ℕ)
    (typed : List (Entry A)) (fault : MenuFault) → map facts_of typed ≡ entries_facts 0 rows
    → AreWithinLimits typed → HasMenuFault typed default fallbacks fault
    → IsNoMenu rows default fallbacks (given_fault_of_menu fault)
no_menu_is rows default fallbacks typed menu_faults.TooMany is few has = absurd (has few)
no_menu_is rows default fallbacks typed menu_faults.BadIndex is few has =
    names_none (few_given rows typed is has.0)
    (λ named. has.1 (subst (λ n. AreEntryIndices n default fallbacks)
    (sym (entry_count rows typed is)) named))
no_menu_is rows default fallbacks typed menu_faults.NoMemory is few has = is_short

-- so do entries that are not taken
pub no_entries_is : (rows : List EntryRecord) (default : ℕ) (fallbacks : List ℕ)
    (fault : GivenFault) → AreNotTaken rows fault → IsNoMenu rows default fallbacks fault
no_entries_is rows default fallbacks (Misused misuse) (inl (is, many)) =
    subst (λ m. IsNoMenu rows default fallbacks (Misused m)) (sym is) (are_many many)
no_entries_is rows default fallbacks (Misused misuse) (inr (inl (is, short, many))) =
    subst (λ m. IsNoMenu rows default fallbacks (Misused m)) (sym is) (has_many_modules short many)
no_entries_is rows default fallbacks (Misused misuse) (inr (inr (is, short, few, long))) =
    subst (λ m. IsNoMenu rows default fallbacks (Misused m)) (sym is) (has_long_rsdp short few long)
no_entries_is rows default fallbacks NoMemory is = is_short
