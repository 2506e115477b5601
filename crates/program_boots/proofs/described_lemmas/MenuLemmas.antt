-- The menu of a description.
use Rattle.std.proofs.Common.{◌≡◌, ◌∙◌, ◌+◌, ◌<◌, ℕ, List, [], ◌∷◌, ◌++◌, get_or, length, map, take}
use Rattle.std.proofs.Common.{Option, Some, None, ap, sym, refl, subst, arith}
use Rattle.std.specs.Prelude.{IfSome}
use Rattle.std.proofs.lemmas.List.{length-append, map-append, take_more}
use Rattle.bl_load.specs.declared.entry.Entry.{Entry}
use Rattle.bl_load.specs.declared.entry.Module.{Module}
use Rattle.bl_load.specs.EntryValue.{IsRsdpCopy}
use Rattle.program_desc.specs.Entries.{HasCopyLength}
use Rattle.bl_session.specs.menu.MenuFaults.{AreWithinLimits, AreEntryIndices, HasMenuFault}
use Rattle.bl_session.specs.menu.Menu.{EntryFacts, facts_of}
use Rattle.bl_session.specs.declared.menu.fault.MenuFault.{MenuFault}
use Rattle.bl_session.specs.declared.menu.fault.MenuFault.TheVariants.{BadIndex, TooMany, NoMemory}
use Rattle.program_desc.specs.declared.entry_row.EntryRow.{EntryRow}
use Rattle.program_desc.specs.declared.entry_form.ModuleRow.{ModuleRow}
use Rattle.program_desc.specs.Views.{entry_view, module_view}
use Rattle.program_boots.specs.described.DescribedMenu.{entry_facts}
use Rattle.program_desc.specs.EntryNames.{file_index}

-- a menu that is small, and whose indices name entries, has no fault; memory may run out
pub only_memory : {A : Type 0} (entries : List (Entry A)) (default : ℕ) (fallbacks : List ℕ)
    (fault : MenuFault)
    → AreWithinLimits entries → AreEntryIndices (length entries) default fallbacks
    → HasMenuFault entries default fallbacks fault → fault ≡ NoMemory
only_memory entries default fallbacks BadIndex small named is = absurd (is.1 named)
only_memory entries default fallbacks TooMany small named is = absurd (is small)
only_memory entries default fallbacks NoMemory small named is = refl

-- one entry more
pub entries_more : {A : Type 0} (names : List (List ℕ)) (rows : List (EntryRow A)) (i : ℕ)
    (row : EntryRow A) (entries : List (Entry A)) (entry : Entry A)
    → row ≡ get_or rows i row → i < length rows
    → map facts_of entries ≡ map (entry_facts names) (map entry_view (take i rows))
    → facts_of entry ≡ entry_facts names (entry_view row)
    → map facts_of (entries ++ entry ∷ [])
    ≡ map (entry_facts names) (map entry_view (take (i + 1) rows))
entries_more {A} names rows i row entries entry here within so same =
    let before = map (entry_facts names) (map entry_view (take i rows)) in
    let more : take (i + 1) rows ≡ take i rows ++ row ∷ [] =
    take_more rows i row within ∙ ap (λ (x : EntryRow A). take i rows ++ x ∷ []) (sym here) in
    map-append facts_of entries (entry ∷ [])
    ∙ ap (λ (xs : List EntryFacts). xs ++ facts_of entry ∷ []) so
    ∙ ap (λ (x : EntryFacts). before ++ x ∷ []) same
    ∙ sym (map-append (entry_facts names) (map entry_view (take i rows)) (entry_view row ∷ []))
    ∙ sym (ap (map (entry_facts names)) (map-append entry_view (take i rows) (row ∷ [])))
    ∙ sym (ap (λ (rs : List (EntryRow A)). map (entry_facts names) (map entry_view rs)) more)

-- what copies a copy of a description's entry is one
pub copied : (copy same : Option (List ℕ)) → same ≡ copy → IfSome copy HasCopyLength
    → IfSome same IsRsdpCopy
copied None same is has = subst (λ (c : Option (List ℕ)). IfSome c IsRsdpCopy) (sym is) tt
copied (Some bytes) same is has =
    subst (λ (c : Option (List ℕ)). IfSome c IsRsdpCopy) (sym is)
    record { filled = has.0; short = has.1 }

-- one module more
pub modules_more : {A : Type 0} (names : List (List ℕ)) (rows : List (ModuleRow A)) (i : ℕ)
    (row : ModuleRow A) (modules more : List (Module A)) (made : Module A)
    → row ≡ get_or rows i row → i < length rows → more ≡ modules ++ made ∷ []
    → made.file ≡ file_index names row.file → made.line ≡ row.line
    → map (λ m. m.file) modules
    ≡ map (file_index names) (map (λ m. m.file) (map module_view (take i rows)))
    → map (λ m. m.line) modules ≡ map (λ m. m.line) (map module_view (take i rows))
    → length modules ≡ i
    → (map (λ m. m.file) more
    ≡ map (file_index names) (map (λ m. m.file) (map module_view (take (i + 1) rows))))
    × (map (λ m. m.line) more ≡ map (λ m. m.line) (map module_view (take (i + 1) rows)))
    × (length more ≡ i + 1)
modules_more {A} names rows i row modules more made here within is file line files lines count =
    let taken : take (i + 1) rows ≡ take i rows ++ row ∷ [] =
    take_more rows i row within ∙ ap (λ (x : ModuleRow A). take i rows ++ x ∷ []) (sym here) in (
      rw (is, taken, map-append, map-append, map-append, map-append, files, file) refl,
      rw (is, taken, map-append, map-append, map-append, lines, line) refl,
      rw (is, length-append) (omega (arith, count)),
    )
