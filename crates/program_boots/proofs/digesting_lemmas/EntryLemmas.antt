-- What an entry comes to with its files.
use Rattle.std.proofs.Common.{◌≡◌, ◌∙◌, ◌<◌, ◌≤◌, ℕ, false, List, [], ◌∷◌, length, map}
use Rattle.std.proofs.Common.{Option, Some, None, refl, sym, subst, arith, inl}
use Rattle.std.proofs.lemmas.Bool.Decides.{nat_tests}
use Rattle.std.proofs.lemmas.List.{length-map}
use Rattle.std.specs.Prelude.{nat_lt}
use Rattle.bl_map.specs.MachineFacts.{MachineFacts}
use Rattle.bl_map.specs.PoolFrames.{frames_for, frames_in, open_frames}
use Rattle.bl_plan.specs.Placed.{place_range}
use Rattle.bl_load.specs.EntryValue.{EntryValue, file_count, value_of}
use Rattle.bl_load.specs.Loadable.{lengths_of, IsLoadable}
use Rattle.bl_load.specs.Parts.{IsHandover, IsPrepFault}
use Rattle.bl_load.specs.PlanContents.{handover_by, places_of}
use Rattle.bl_load.specs.declared.entry.Entry.{Entry}
use Rattle.bl_load.specs.declared.entry.Entry.TheVariants.{Multiboot2, Linux}
use Rattle.bl_load.specs.declared.entry.Module.{Module}
use Rattle.bl_load.specs.declared.plan.Plan.{Plan}
use Rattle.bl_load.specs.declared.refusal.PrepFault.{PrepFault}
use Rattle.bl_load.specs.declared.refusal.PrepFault.TheVariants as prep_fault
use Rattle.bl_load.specs.declared.refusal.Refusal.TheVariants.{NoPool}
use Rattle.bl_stage.specs.Files.{File, size_of}
use Rattle.bl_session.specs.attempt.AttemptResult.{AttemptResult, handed, refused}
use Rattle.bl_session.specs.attempt.AttemptResult.{HasWholeFilesResult, file_refusal, size_refusal}
use Rattle.bl_session.specs.attempt.AttemptResult.{known_lengths}
use Rattle.bl_session.specs.menu.Menu.{facts_of, files_of, value_with}
use Rattle.bl_session.specs.session.BootSteps.{BootFacts}
use Rattle.bl_session.proofs.attempt_lemmas.AttemptLemmas.{value_is}
use Rattle.bl_session.proofs.attempt_lemmas.EntryEndLemmas.{AreRead, are_read}
use Rattle.bl_session.proofs.attempt_lemmas.EntryEndLemmas.{ends_whole}
use Rattle.bl_session.proofs.attempt_lemmas.FinishLemmas.{has_room, lacks_room}
use Rattle.program_boots.specs.EntryPlans.{file_sizes, file_texts, EntryEnds}
use Rattle.program_boots.specs.EntryPlans.{IsEntryPlan}
use Rattle.program_boots.specs.EntryPlans.{IsPlanFault}

-- ---- by the sizes

pub fits_pool : (machine : MachineFacts) (sizes : List (Option ℕ)) → file_refusal 0 sizes ≡ None
    → frames_for (known_lengths sizes) ≤ frames_in machine.pool
    → size_refusal machine sizes ≡ None
fits_pool machine sizes first fits =
    let test : nat_lt (frames_in machine.pool) (frames_for (known_lengths sizes)) ≡ false =
    grind (arith, nat_tests) in
    rw (first, test) refl

-- files that were checked so are not refused by their sizes
pub fits_sizes : (machine : MachineFacts) (files : List File) (wanted indices lengths : List ℕ)
    (frames : ℕ) → indices ≡ wanted → file_refusal 0 (file_sizes files indices) ≡ None
    → lengths ≡ known_lengths (file_sizes files indices) → frames_for lengths ≤ frames
    → frames ≡ frames_in machine.pool → size_refusal machine (file_sizes files wanted) ≡ None
fits_sizes machine files wanted indices lengths frames are first known fits all =
    rw (← are)
    (fits_pool machine (file_sizes files indices) first (rw (known, all) at fits))

-- the lengths that are known are those of the files' bytes
lengths_read : (sizes : List (Option ℕ)) (texts : List (List ℕ)) → AreRead sizes texts
    → known_lengths sizes ≡ map length texts
lengths_read [] [] read = refl
lengths_read [] (text ∷ texts) read = absurd read
lengths_read (size ∷ sizes) [] read = absurd read
lengths_read (size ∷ sizes) (text ∷ texts) read =
    rw (read.0, lengths_read sizes texts read.1) refl

as_many : {A : Type 0} (entry : Entry A) → length (files_of entry) ≡ file_count entry
as_many {A} (Multiboot2 kernel line modules rsdp_old rsdp_new) =
    let files = length-map modules.items (λ (m : Module A). m.file) in omega (arith, files)
as_many (Linux kernel line None wide) = refl
as_many (Linux kernel line (Some file) wide) = refl

-- an entry with these files, for its indices
module _ {A : Type 0} (machine : MachineFacts) (entry : Entry A) (files : List File) where
  abbrev sizes : List (Option ℕ)
  sizes = file_sizes files (files_of entry)

  abbrev texts : List (List ℕ)
  texts = file_texts files (files_of entry)

  -- an entry has as many files as are read
  pub counted_texts : length texts ≡ file_count entry
  counted_texts = rw length-map (as_many entry)

  -- ---- by the value

  -- the sizes don't refuse the entry
  module _ (fits : size_refusal machine sizes ≡ None) where
    ends_by_value : (result : AttemptResult)
        → HasWholeFilesResult machine (value_of texts entry) result
        → EntryEnds machine (facts_of entry) files result
    ends_by_value result is =
        ends_whole machine sizes None (value_with (facts_of entry) texts) result fits refl
        (subst (λ (v : EntryValue). HasWholeFilesResult machine v result)
        (sym (value_is entry texts)) is)

    pub value_fault : (fault : PrepFault) → IsPrepFault machine (value_of texts entry) fault
        → IsPlanFault machine (facts_of entry) files fault
    value_fault (prep_fault.Refused refusal) is = ends_by_value (refused refusal) (inl is)
    value_fault prep_fault.NoMemory is = tt

    lengths_are : known_lengths sizes ≡ map length texts
    lengths_are =
        let facts : BootFacts = record {
          machine = machine;
          menu = record { entries = facts_of entry ∷ []; attempts = [] };
          sizes = map size_of files;
        } in
        lengths_read sizes texts (are_read facts files 0 refl fits)

    -- ---- by its plan

    module _ (plan : Plan A)
        (is : IsHandover machine (value_of texts entry) (handover_by texts plan))
        (loadable : IsLoadable (lengths_of texts) machine.size plan) where
      pub has_plan : (lengths : List ℕ) (frames : ℕ) → lengths ≡ known_lengths sizes
          → frames_for lengths ≤ frames
          → frames ≡ open_frames machine.pool (map place_range (places_of plan))
          → IsEntryPlan machine (facts_of entry) files plan
      has_plan lengths frames known fits all = record {
        ends = ends_by_value (handed (handover_by texts plan)) (
          is,
          has_room machine texts entry plan is loadable.backed
              (rw (known ∙ lengths_are, all) at fits),
        );
        loadable = loadable;
      }

      pub room_fault : (lengths : List ℕ) (frames : ℕ) → lengths ≡ known_lengths sizes
          → frames < frames_for lengths
          → frames ≡ open_frames machine.pool (map place_range (places_of plan))
          → EntryEnds machine (facts_of entry) files (refused NoPool)
      room_fault lengths frames known few all =
          ends_by_value (refused NoPool)
          (lacks_room machine texts entry plan is loadable.backed
          (λ room. let least = rw (known ∙ lengths_are, all) at few in omega (arith, room, least)))
