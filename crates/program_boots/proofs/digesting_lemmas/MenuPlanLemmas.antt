-- What a menu comes to, attempt by attempt.
use Rattle.std.proofs.Common.{◌≡◌, ◌<◌, ◌+◌, ◌++◌, ℕ, Bool, true, false, List, [], ◌∷◌}
use Rattle.std.proofs.Common.{length, map, drop, get_or, Option, None, refl, sym, ap, subst}
use Rattle.std.proofs.Common.{if◌then◌else◌, add-one, drop-cons}
use Rattle.bl_map.specs.MachineFacts.{MachineFacts}
use Rattle.bl_load.specs.declared.entry.Entry.{Entry}
use Rattle.bl_load.specs.declared.refusal.Refusal.{Refusal}
use Rattle.bl_load.specs.declared.refused_entry.RefusedEntry.{RefusedEntry}
use Rattle.bl_load.specs.PlanContents.{handover_by}
use Rattle.bl_load.specs.declared.plan.Plan.{Plan}
use Rattle.bl_stage.specs.Files.{File, size_of}
use Rattle.bl_session.specs.attempt.AttemptResult.{AttemptResult, AttemptHasResult, handed, refused}
use Rattle.bl_session.specs.attempt.AwaitedPieces.{are_whole}
use Rattle.bl_session.specs.menu.Menu.{EntryFacts, MenuFacts, entry_at, facts_of, files_of}
use Rattle.bl_session.specs.menu.EntryContents.{entry_value_in, texts_of}
use Rattle.bl_session.specs.session.BootSteps.{BootFacts, State, handed_over, sizes_of}
use Rattle.bl_session.specs.session.BootSteps.{fresh}
use Rattle.bl_session.specs.session.Outcome.{EntryHasResult, IsFirst}
use Rattle.bl_session.specs.session.Phases.{boot_facts}
use Rattle.bl_session.specs.session.Schedules.{no_fault}
use Rattle.program_boots.specs.EntryPlans.{EntryEnds, IsEntryPlan, file_texts}

-- without a fault no file is faulty
none_if : (b : Bool) → (if b then None else None) ≡ (let none : Option ℕ = None in none)
none_if true = refl
none_if false = refl

module _ (machine : MachineFacts) (menu : MenuFacts) (files : List File) where
  abbrev facts : BootFacts
  facts = boot_facts machine menu (map size_of files)

  -- the attempt of an entry of the menu
  entry_result : (entry : ℕ) (e : EntryFacts) (result : AttemptResult) → e ≡ entry_at menu entry
      → EntryEnds machine e files result → EntryHasResult facts files None entry result
  entry_result entry e result is ends =
      subst
      (λ (faulty : Option ℕ). AttemptHasResult machine (sizes_of facts entry) faulty
      (entry_value_in facts files entry) result)
      (sym (none_if (are_whole (fresh facts entry))))
      (subst (λ (x : EntryFacts). EntryEnds machine x files result) is ends)

  module _ (number entry : ℕ) (e : EntryFacts) (earlier : List RefusedEntry)
      (within : number < length menu.attempts) (at : entry ≡ get_or menu.attempts number 0)
      (is : e ≡ entry_at menu entry) where
    from_here : drop number menu.attempts ≡ entry ∷ drop (number + 1) menu.attempts
    from_here = rw (drop-cons menu.attempts number 0 within, add-one, at) refl

    pub refused_here : (refusal : Refusal) (state : State)
        → EntryEnds machine e files (refused refusal)
        → IsFirst facts files no_fault (drop (number + 1) menu.attempts)
        (earlier ++ record { entry = entry; refusal = refusal } ∷ []) state
        → IsFirst facts files no_fault (drop number menu.attempts) earlier state
    refused_here refusal state ends rest =
        subst (λ (left : List ℕ). IsFirst facts files no_fault left earlier state) (sym from_here)
        (refused refusal, entry_result entry e (refused refusal) is ends, rest)

    pub handed_here : {A : Type 0} (plan : Plan A) → IsEntryPlan machine e files plan
        → IsFirst facts files no_fault (drop number menu.attempts) earlier
        (handed_over entry earlier (handover_by (texts_of facts files entry) plan))
    handed_here plan planned =
        let ends = subst (λ (x : EntryFacts). IsEntryPlan machine x files plan) is planned in
        let handover = handover_by (texts_of facts files entry) plan in
        subst (λ (left : List ℕ). IsFirst facts files no_fault left earlier
        (handed_over entry earlier handover)) (sym from_here) (
          handed handover,
          entry_result entry (entry_at menu entry) (handed handover) refl ends.ends,
          refl,
        )

-- an entry's files hold the same, by the entry and by its place in the menu
pub same_texts : {A : Type 0} (machine : MachineFacts) (menu : MenuFacts) (files : List File)
    (number : ℕ) (entry : Entry A) → facts_of entry ≡ entry_at menu number
    → texts_of (boot_facts machine menu (map size_of files)) files number
    ≡ file_texts files (files_of entry)
same_texts machine menu files number entry is =
    ap (λ (e : EntryFacts). file_texts files e.files) (sym is)
