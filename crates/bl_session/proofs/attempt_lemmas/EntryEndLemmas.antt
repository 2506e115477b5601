-- An entry's files, if its sizes don't refuse it, and what an attempt ends in.
use Rattle.std.proofs.Common.{◌≡◌, ℕ, ◌+◌, Bool, true, false, List, [], ◌∷◌, length, Option, Some}
use Rattle.std.proofs.Common.{None, option_map, unwrap_or, sym, ap, subst, ◌∙◌, refl, map}
use Rattle.std.proofs.Common.{if◌then◌else◌, nat_lt, get_or, zero, suc, arith}
use Rattle.std.proofs.lemmas.Bool.Decides.{nat_tests}
use Rattle.std.specs.Option.{option_or}
use Rattle.bl_map.specs.MachineFacts.{MachineFacts}
use Rattle.bl_load.specs.declared.refusal.Refusal.{Refusal}
use Rattle.bl_load.specs.declared.refusal.Refusal.TheVariants.{FileFault, FileTooLong}
use Rattle.bl_load.specs.EntryValue.{EntryValue}
use Rattle.bl_stage.specs.PieceStates.{waiting_pieces}
use Rattle.bl_stage.specs.Files.{file_limit, File, missing, too_long, whole, size_of, file_bytes}
use Rattle.bl_session.specs.attempt.AttemptResult.{AttemptResult, refused, HasWholeFilesResult}
use Rattle.bl_session.specs.attempt.AttemptResult.{AttemptHasResult}
use Rattle.bl_session.specs.attempt.AttemptResult.{UnlessRefused, size_refusal, file_refusal}
use Rattle.bl_session.specs.attempt.AttemptResult.{pool_refusal}
use Rattle.bl_session.specs.attempt.AttemptResult.{known_lengths}
use Rattle.bl_session.specs.menu.Menu.{entry_at}
use Rattle.bl_session.specs.session.BootSteps.{BootFacts, sizes_of, fresh}
use Rattle.bl_session.specs.menu.EntryContents.{texts_of}
use Rattle.bl_session.proofs.attempt_lemmas.GatherLemmas.{FitAll, fits_first}

-- ---- an entry that its sizes don't refuse has its files whole in the store

-- the files of these indices have these sizes and texts
abbrev pub AreRead : List (Option ℕ) → List (List ℕ) → Type 0
AreRead [] [] = Unit {0}
AreRead [] (text ∷ texts) = ⊥
AreRead (size ∷ sizes) [] = ⊥
AreRead (size ∷ sizes) (text ∷ texts) = (size ≡ Some (length text)) × AreRead sizes texts

no_refusal : (b : Bool) (x : Option Refusal) (r : Refusal) → (if b then Some r else x) ≡ None
    → x ≡ None
no_refusal true x r e = absurd cc
no_refusal false x r e = e

read_one : (place : ℕ) (file : File) (sizes : List (Option ℕ))
    → file_refusal place (size_of file ∷ sizes) ≡ None
    → (size_of file ≡ Some (length (file_bytes file))) × (file_refusal (place + 1) sizes ≡ None)
read_one place missing sizes e = absurd cc
read_one place (whole bytes) sizes e = (
  refl,
  no_refusal (nat_lt file_limit (length bytes)) (file_refusal (place + 1) sizes)
      (FileTooLong place) e,
)
read_one place (too_long over) sizes e =
    let long : nat_lt file_limit (file_limit + 1 + over) ≡ true = grind (arith, nat_tests) in
    let some : (if true then Some (FileTooLong place) else file_refusal (place + 1) sizes) ≡ None =
    rw long at e in
    absurd cc

pub size_at : (files : List File) (file : ℕ)
    → get_or (map size_of files) file None ≡ size_of (get_or files file missing)
size_at [] file = refl
size_at (f ∷ files) zero = refl
size_at (f ∷ files) (suc file) = size_at files file

read_all : (files : List File) (place : ℕ) (indices : List ℕ)
    → file_refusal place (map (λ file. get_or (map size_of files) file None) indices) ≡ None
    → AreRead (map (λ file. get_or (map size_of files) file None) indices)
    (map (λ file. file_bytes (get_or files file missing)) indices)
read_all files place [] e = tt
read_all files place (file ∷ indices) e =
    let one =
    read_one place (get_or files file missing)
    (map (λ f. get_or (map size_of files) f None) indices) (rw (size_at files file) at e) in
    (size_at files file ∙ one.0, read_all files (place + 1) indices one.1)

first_none : (a b : Option Refusal) → option_or a b ≡ None → a ≡ None
first_none None b e = refl
first_none (Some r) b e = absurd cc

fits_read : (sizes : List (Option ℕ)) (texts : List (List ℕ)) → AreRead sizes texts
    → FitAll (map waiting_pieces (known_lengths sizes)) texts
fits_read [] [] h = tt
fits_read [] (text ∷ texts) h = absurd h
fits_read (size ∷ sizes) [] h = absurd h
fits_read (None ∷ sizes) (text ∷ texts) h = absurd (let e = h.0 in cc)
fits_read (Some n ∷ sizes) (text ∷ texts) h =
    (fits_first text n (let e = h.0 in cc), fits_read sizes texts h.1)

-- what an entry's files hold, if their sizes don't refuse it
pub are_read : (facts : BootFacts) (files : List File) (entry : ℕ) → facts.sizes ≡ map size_of files
    → size_refusal facts.machine (sizes_of facts entry) ≡ None
    → AreRead (sizes_of facts entry) (texts_of facts files entry)
are_read facts files entry k e =
    let indices = (entry_at facts.menu entry).files in
    let sizes : sizes_of facts entry ≡ map (λ file. get_or (map size_of files) file None) indices =
    rw k refl in
    let none : file_refusal 0 (map (λ file. get_or (map size_of files) file None) indices) ≡ None =
    rw sizes at
    (first_none (file_refusal 0 (sizes_of facts entry))
    (pool_refusal facts.machine (known_lengths (sizes_of facts entry))) e) in
    rw sizes (read_all files 0 indices none)

pub fits_fresh : (facts : BootFacts) (files : List File) (entry : ℕ)
    → facts.sizes ≡ map size_of files
    → size_refusal facts.machine (sizes_of facts entry) ≡ None
    → FitAll (fresh facts entry) (texts_of facts files entry)
fits_fresh facts files entry k e = fits_read _ _ (are_read facts files entry k e)

-- the length of each file is that of its text
pub length_read : (sizes : List (Option ℕ)) (texts : List (List ℕ)) → AreRead sizes texts → (i : ℕ)
    → get_or (known_lengths sizes) i 0 ≡ length (get_or texts i [])
length_read [] [] read i = refl
length_read [] (text ∷ texts) read i = absurd read
length_read (size ∷ sizes) [] read i = absurd read
length_read (size ∷ sizes) (text ∷ texts) read zero = ap (λ (x : Option ℕ). unwrap_or x 0) read.0
length_read (size ∷ sizes) (text ∷ texts) read (suc i) = length_read sizes texts read.1 i

-- ---- what an attempt ends in

pub ends_by_size : (facts : MachineFacts) (sizes : List (Option ℕ)) (faulty : Option ℕ)
    (value : EntryValue) (r : Refusal) → size_refusal facts sizes ≡ Some r
    → AttemptHasResult facts sizes faulty value (refused r)
ends_by_size facts sizes faulty value r e =
    subst
    (λ (x : Option Refusal).
    UnlessRefused x (UnlessRefused (option_map FileFault faulty) (HasWholeFilesResult facts value))
    (refused r))
    (sym e)
    refl

pub ends_by_fault : (facts : MachineFacts) (sizes : List (Option ℕ)) (faulty : Option ℕ)
    (value : EntryValue) (place : ℕ) → size_refusal facts sizes ≡ None → faulty ≡ Some place
    → AttemptHasResult facts sizes faulty value (refused (FileFault place))
ends_by_fault facts sizes faulty value place e f =
    subst
    (λ (x : Option Refusal).
    UnlessRefused x (UnlessRefused (option_map FileFault faulty) (HasWholeFilesResult facts value))
    (refused (FileFault place))) (sym e)
    (subst
    (λ (x : Option ℕ).
    UnlessRefused (option_map FileFault x) (HasWholeFilesResult facts value) (refused (FileFault place)))
    (sym f)
    refl)

pub ends_whole : (facts : MachineFacts) (sizes : List (Option ℕ)) (faulty : Option ℕ)
    (value : EntryValue) (end : AttemptResult) → size_refusal facts sizes ≡ None → faulty ≡ None
    → HasWholeFilesResult facts value end → AttemptHasResult facts sizes faulty value end
ends_whole facts sizes faulty value end e f in_value =
    subst
    (λ (x : Option Refusal).
    UnlessRefused x (UnlessRefused (option_map FileFault faulty) (HasWholeFilesResult facts value)) end)
    (sym e)
    (subst (λ (x : Option ℕ). UnlessRefused (option_map FileFault x) (HasWholeFilesResult facts value) end)
    (sym f)
    in_value)
