-- What refuses the entries that a boot has attempted.
use Rattle.std.proofs.Common.{◌≡◌, ◌∙◌, ◌+◌, ◌++◌, ℕ, true, false, List, [], ◌∷◌, All, map}
use Rattle.std.proofs.Common.{Option, Some, None, refl, sym, ap, subst, inl, inr, arith}
use Rattle.std.specs.Prelude.{nat_lt, option_map, slice_get, slice_index_or}
use Rattle.std.proofs.lemmas.Bool.{cases_Bool}
use Rattle.std.proofs.lemmas.List.Elements.{All-push}
use Rattle.std.proofs.lemmas.Option.{get_or_from_slice_get, slice_get-map}
use Rattle.std.proofs.lemmas.Simd.{map-map}
use Rattle.bl_map.specs.MachineFacts.{MachineFacts}
use Rattle.bl_map.specs.PoolFrames.{frames_for, frames_in}
use Rattle.bl_load.specs.Parts.{IsRefusal}
use Rattle.bl_load.specs.EntryValue.{EntryValue}
use Rattle.bl_load.specs.declared.refusal.Refusal.{Refusal}
use Rattle.bl_load.specs.declared.refusal.Refusal.TheVariants.{NoFile, FileTooLong, NoPool}
use Rattle.bl_load.specs.declared.refused_entry.RefusedEntry.{RefusedEntry}
use Rattle.bl_stage.specs.Files.{file_limit, File, file_bytes, missing, size_of}
use Rattle.bl_session.specs.attempt.AttemptResult.{AttemptResult, HasWholeFilesResult}
use Rattle.bl_session.specs.attempt.AttemptResult.{UnlessRefused}
use Rattle.bl_session.specs.attempt.AttemptResult.{handed, refused}
use Rattle.bl_session.specs.attempt.AttemptResult.{file_refusal, known_lengths, pool_refusal}
use Rattle.bl_session.specs.attempt.AttemptResult.{size_refusal}
use Rattle.bl_session.specs.session.BootSteps.{BootFacts, State, fresh, sizes_of}
use Rattle.bl_session.specs.menu.Menu.{EntryFacts, MenuFacts, entry_at, no_entry, value_with}
use Rattle.bl_session.specs.session.Outcome.{EntryHasResult, IsFirst, IsOutcome, faulty_file}
use Rattle.bl_session.specs.menu.EntryContents.{entry_value_in}
use Rattle.bl_session.specs.session.Schedules.{no_fault}
use Rattle.bl_session.specs.session.Phases.{boot_facts}
use Rattle.bl_session.specs.attempt.AwaitedPieces.{are_whole}
use Rattle.program_desc.specs.Described.{DescriptionFacts}
use Rattle.program_desc.specs.Entries.{Entry}
use Rattle.program_boots.specs.described.BootCases.{boot_of}
use Rattle.program_boots.specs.described.DescribedMenu.{entry_facts, menu_of}
use Rattle.program_boots.specs.described.DescribedMenu.{attempted_file_names}
use Rattle.program_desc.specs.EntryNames.{file_names, file_index}
use Rattle.program_boots.specs.explaining.Details.{value_sought}
use Rattle.program_boots.specs.explaining.AttemptedEntries.{HasPlaceRefusal, is_placing}
use Rattle.program_say.specs.Sought.{SoughtFacts}
use Rattle.program_boots.specs.explaining.ToldBoots.{refused_in, sought_in}
use Rattle.program_boots.proofs.explaining_lemmas.NoPlaceLemmas.{IsOther, no_other, other_if}
use Rattle.program_boots.proofs.explaining_lemmas.NoPlaceLemmas.{other_is, other_or}

-- ---- by the sizes of its files

other_file : (place : ℕ) (sizes : List (Option ℕ)) → IsOther (file_refusal place sizes)
other_file place [] = no_other
other_file place (None ∷ sizes) = other_is (NoFile place) refl
other_file place (Some size ∷ sizes) =
    other_if (nat_lt file_limit size) (Some (FileTooLong place)) (file_refusal (place + 1) sizes)
    (other_is (FileTooLong place) refl) (other_file (place + 1) sizes)

other_size : (facts : MachineFacts) (sizes : List (Option ℕ)) → IsOther (size_refusal facts sizes)
other_size facts sizes =
    let lengths = known_lengths sizes in
    other_or (file_refusal 0 sizes) (pool_refusal facts lengths) (other_file 0 sizes)
    (other_if (nat_lt (frames_in facts.pool) (frames_for lengths)) (Some NoPool) None
    (other_is NoPool refl) no_other)

-- ---- by its attempt

refusal_in : AttemptResult → Refusal → Refusal
refusal_in (handed h) other = other
refusal_in (refused r) other = r

behind : (first : Option Refusal) (rest : AttemptResult → Type 0) (r : Refusal)
    → is_placing r ≡ true → IsOther first → UnlessRefused first rest (refused r) → rest (refused r)
unfolding refusal_in
behind None rest r placing other is = is
behind (Some s) rest r placing other is =
    let same : s ≡ r = ap (λ e. refusal_in e s) (sym is) in
    let bad : true ≡ false = sym placing ∙ other r (ap Some same) in absurd cc

never_faulty : (facts : BootFacts) (entry : ℕ) → faulty_file facts entry None ≡ None
never_faulty facts entry =
    elim (cases_Bool (are_whole (fresh facts entry))) [
      | inl whole ↦ rw whole refl
      | inr waits ↦ rw waits refl
    ]

by_value : (facts : MachineFacts) (value : EntryValue) (r : Refusal) → is_placing r ≡ true
    → HasWholeFilesResult facts value (refused r) → IsRefusal facts value r
by_value facts value r placing (inl is) = is
by_value facts value r placing (inr (lacks, same)) =
    let bad : true ≡ false = sym placing ∙ ap is_placing same in absurd cc

-- a refusal by 19 or 20 is the first one of the entry's value
placing_result : (facts : BootFacts) (files : List File) (entry : ℕ) (r : Refusal)
    → is_placing r ≡ true → EntryHasResult facts files None entry (refused r)
    → IsRefusal facts.machine (entry_value_in facts files entry) r
placing_result facts files entry r placing is =
    let ends =
    behind (size_refusal facts.machine (sizes_of facts entry)) _ r placing
    (other_size facts.machine (sizes_of facts entry)) is in
    by_value facts.machine (entry_value_in facts files entry) r placing
    (rw (never_faulty facts entry) at ends)

-- ---- each refusal of a boot

abbrev IsResult : BootFacts → List File → RefusedEntry → Type 0
IsResult facts files r = EntryHasResult facts files None r.entry (refused r.refusal)

refused_results : (facts : BootFacts) (files : List File) (attempts : List ℕ)
    (earlier : List RefusedEntry) (state : State) → All (IsResult facts files) earlier
    → IsFirst facts files no_fault attempts earlier state
    → All (IsResult facts files) (refused_in state)
refused_results facts files [] earlier state all is =
    subst (λ (s : State). All (IsResult facts files) (refused_in s)) (sym is) all
refused_results facts files (entry ∷ rest) earlier state all (handed h, ends, is) =
    subst (λ (s : State). All (IsResult facts files) (refused_in s)) (sym is) all
refused_results facts files (entry ∷ rest) earlier state all (refused r, ends, next) =
    refused_results facts files rest (earlier ++ record { entry = entry; refusal = r } ∷ []) state
    (All-push (IsResult facts files) earlier (record { entry = entry; refusal = r }) all ends) next

-- ---- by what was found

-- the value of an entry of a description
pub value_of_entry : (d : DescriptionFacts) (facts : MachineFacts) (files : List File) (index : ℕ)
    (e : Entry)
    → slice_get d.entries index ≡ Some e
    → entry_value_in (boot_of d facts files) files index ≡ value_sought (sought_in d files) e
value_of_entry d facts files index e here =
    let facts_by = entry_facts (attempted_file_names d) in
    let text = λ (file : ℕ). file_bytes (slice_index_or files file missing) in
    let at : entry_at (menu_of d) index ≡ facts_by e =
    get_or_from_slice_get (map facts_by d.entries) index (facts_by e) no_entry
    (slice_get-map facts_by d.entries index ∙ ap (option_map facts_by) here) in
    ap (λ (f : EntryFacts). value_with f (map text f.files)) at
    ∙ ap (value_with (facts_by e)) (map-map text (file_index (attempted_file_names d)) (file_names e))

by_found : (d : DescriptionFacts) (facts : MachineFacts) (files : List File) (r : RefusedEntry)
    → IsResult (boot_of d facts files) files r
    → HasPlaceRefusal facts d.entries (sought_in d files) r
by_found d facts files r is = λ e here placing.
    subst (λ (v : EntryValue). IsRefusal facts v r.refusal)
    (value_of_entry d facts files r.entry e here)
    (placing_result (boot_of d facts files) files r.entry r.refusal placing is)

-- each refusal by 19 or 20 is the first one of its entry's value
pub place_refusals : (d : DescriptionFacts) (facts : MachineFacts) (files : List File) (state : State)
    → IsOutcome (boot_of d facts files) files no_fault state
    → All (HasPlaceRefusal facts d.entries (sought_in d files)) (refused_in state)
place_refusals d facts files state is = λ k r within.
    let all =
    refused_results (boot_of d facts files) files (boot_of d facts files).menu.attempts [] state
    (λ i x inside. absurd (omega (arith, inside))) is in
    by_found d facts files _ (all k r within)

-- where a menu is that of the description
pub place_refusals_of : (d : DescriptionFacts) (facts : MachineFacts) (files : List File)
    (menu : MenuFacts) (state : State) → menu ≡ menu_of d
    → IsOutcome (boot_facts facts menu (map size_of files)) files no_fault state
    → All (HasPlaceRefusal facts d.entries (sought_in d files)) (refused_in state)
place_refusals_of d facts files menu state same is =
    place_refusals d facts files state
    (subst
    (λ (m : MenuFacts). IsOutcome (boot_facts facts m (map size_of files)) files no_fault state)
    same is)

-- as these are given
pub place_refusals_for : (d : DescriptionFacts) (facts : MachineFacts) (files : List File)
    (menu : MenuFacts) (state : State) (sought : SoughtFacts) (given : List RefusedEntry)
    → sought ≡ sought_in d files → given ≡ refused_in state → menu ≡ menu_of d
    → IsOutcome (boot_facts facts menu (map size_of files)) files no_fault state
    → All (HasPlaceRefusal facts d.entries sought) given
place_refusals_for d facts files menu state sought given found listed same is =
    subst (λ (s : SoughtFacts). All (HasPlaceRefusal facts d.entries s) given) (sym found)
    (subst
    (λ (rs : List RefusedEntry). All (HasPlaceRefusal facts d.entries (sought_in d files)) rs)
    (sym listed) (place_refusals_of d facts files menu state same is))
