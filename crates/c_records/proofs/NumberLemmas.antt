-- The numbers of an entry's files.
use Rattle.std.proofs.Common.{◌≡◌, ◌∙◌, ◌+◌, ◌<◌, ℕ, zero, suc, List, [], ◌∷◌, ◌++◌, length}
use Rattle.std.proofs.Common.{map, take, ap, ap₂, refl, arith, add-one, sym, true, Bool, ◌==◌}
use Rattle.std.proofs.Common.{if◌then◌else◌}
use Rattle.std.proofs.lemmas.List.{length-map, map_push}
use Rattle.bl_load.specs.declared.entry.Entry.{Entry}
use Rattle.bl_load.specs.declared.entry.Entry.TheVariants.{Multiboot2, Linux}
use Rattle.bl_load.specs.EntryValue.{EntryValue, file_count, value_of}
use Rattle.bl_session.specs.menu.Menu.{EntryFacts, facts_of, files_of}
use Rattle.c_records.specs.declared.given_records.EntryRecord.{EntryRecord}
use Rattle.c_records.specs.declared.given_records.FileRecord.{FileRecord}
use Rattle.c_records.specs.declared.given_records.ModuleRecord.{ModuleRecord}
use Rattle.c_records.specs.Given.{entry_without_files, files_beside, files_given, initrd_given}
use Rattle.c_records.specs.MenuGiven.{numbered, entry_facts_given}

-- there are as many as elements
pub length-numbered : {X : Type 0} (first : ℕ) (xs : List X)
    → length (numbered first xs) ≡ length xs
length-numbered first [] = refl
length-numbered first (x ∷ xs) = ap suc (length-numbered (suc first) xs)

-- they are the same, whatever is made of the elements
pub numbered-map : {X Y : Type 0} (f : X → Y) (first : ℕ) (xs : List X)
    → numbered first (map f xs) ≡ numbered first xs
numbered-map f first [] = refl
numbered-map f first (x ∷ xs) = ap (λ ns. first ∷ ns) (numbered-map f (suc first) xs)

numbered_next : {X : Type 0} (first i : ℕ) (xs : List X) → i < length xs
    → numbered first (take (suc i) xs) ≡ numbered first (take i xs) ++ (first + i) ∷ []
numbered_next first i [] within = absurd (omega arith)
numbered_next first zero (x ∷ xs) within = ap (λ n. n ∷ []) (omega arith)
numbered_next first (suc i) (x ∷ xs) within =
    ap (λ ns. first ∷ ns) (numbered_next (suc first) i xs (omega arith))
    ∙ ap (λ n. first ∷ (numbered (suc first) (take i xs) ++ n ∷ [])) (omega arith)

-- one element more
pub numbered_more : {X : Type 0} (first i : ℕ) (xs : List X) → i < length xs
    → numbered first (take (i + 1) xs) ≡ numbered first (take i xs) ++ (first + i) ∷ []
numbered_more first i xs within = rw add-one (numbered_next first i xs within)

-- one element more of a list that has these numbers
pub one_more_numbered : {X Y : Type 0} (xs after : List X) (x : X) (ys : List Y) (first i : ℕ)
    (f : X → ℕ) → i < length ys → after ≡ xs ++ x ∷ [] → f x ≡ first + i
    → map f xs ≡ numbered first (take i ys) → map f after ≡ numbered first (take (i + 1) ys)
one_more_numbered xs after x ys first i f within is one so =
    ap (map f) is ∙ map_push f xs x ∙ ap (λ (ns : List ℕ). ns ++ f x ∷ []) so
    ∙ ap (λ n. numbered first (take i ys) ++ n ∷ []) one ∙ sym (numbered_more first i ys within)

-- what contracts see of an entry of protocol 1
pub multiboot2_facts : {A : Type 0} (entry : Entry A) (r : EntryRecord) (before : ℕ)
    → (r.protocol == 1) ≡ true → files_of entry ≡ before ∷ numbered (before + 1) r.modules.now
    → value_of [] entry ≡ entry_without_files r → facts_of entry ≡ entry_facts_given before r
multiboot2_facts entry r before is files value =
    let beside : files_beside r ≡ map (λ m. m.file) r.modules.now =
    ap (λ (b : Bool). if b then map (λ m. m.file) r.modules.now else initrd_given r) is in
    let next : before + 1 ≡ suc before = omega arith in
    let numbers : files_of entry ≡ numbered before (files_given r) =
    files ∙ ap (λ n. before ∷ numbered n r.modules.now) next
    ∙ ap (λ (ns : List ℕ). before ∷ ns)
    (sym (numbered-map (λ (m : ModuleRecord). m.file) (suc before) r.modules.now))
    ∙ ap (λ (fs : List FileRecord). before ∷ numbered (suc before) fs) (sym beside) in
    ap₂ (λ (ns : List ℕ) (v : EntryValue). let f : EntryFacts = record { files = ns; blank = v } in f)
    numbers value

counted : {A : Type 0} (entry : Entry A) → file_count entry ≡ length (files_of entry)
counted (Multiboot2 kernel line modules rsdp_old rsdp_new) =
    omega (arith, length-map modules.items (λ m. m.file))
counted (Linux kernel line initrd wide) = omega arith

-- an entry has as many files as are given for it
pub count_by_facts : {A : Type 0} (entry : Entry A) (r : EntryRecord) (before : ℕ)
    → facts_of entry ≡ entry_facts_given before r → file_count entry ≡ length (files_given r)
count_by_facts entry r before is =
    counted entry ∙ ap (λ (facts : EntryFacts). length facts.files) is
    ∙ length-numbered before (files_given r)
