-- What is told of a refusal beside its number and its name.
use Rattle.std.proofs.Common.{◌≡◌, ◌∙◌, ◌+◌, ◌<◌, ◌++◌, ℕ, List, [], ◌∷◌, length, map, take}
use Rattle.std.proofs.Common.{get_or, Some, None, refl, sym, ap, arith}
use Rattle.std.proofs.lemmas.List.{length-map, map-append, take_more}
use Rattle.bl_map.specs.MachineFacts.{MachineFacts}
use Rattle.bl_map.specs.PoolFrames.{open_frames}
use Rattle.bl_plan.specs.Placed.{place_range}
use Rattle.bl_load.specs.Loadable.{lengths_of, IsLoadable}
use Rattle.bl_load.specs.Parts.{IsHandover}
use Rattle.bl_load.specs.PlanContents.{handover_by, places_of}
use Rattle.bl_load.specs.EntryValue.{EntryValue, file_count, value_of}
use Rattle.bl_load.specs.declared.entry.Entry as loaded
use Rattle.bl_load.specs.declared.entry.Module.{Module}
use Rattle.bl_load.specs.declared.entry.Entry.TheVariants.{Multiboot2, Linux}
use Rattle.bl_load.specs.declared.plan.Plan.{Plan}
use Rattle.bl_load.specs.declared.refused_entry.RefusedEntry.{RefusedEntry}
use Rattle.bl_session.specs.menu.Menu.{EntryFacts, facts_of, files_of, value_with}
use Rattle.bl_session.proofs.attempt_lemmas.AfterLemmas.{ranges_are}
use Rattle.bl_session.proofs.attempt_lemmas.AttemptLemmas.{value_is}
use Rattle.program_desc.specs.Entries.{Entry}
use Rattle.program_boots.specs.described.DescribedMenu.{entry_facts}
use Rattle.program_desc.specs.EntryNames.{file_names, file_index}
use Rattle.program_boots.specs.explaining.Details.{AreFramesBeside}
use Rattle.program_boots.specs.explaining.Details.{value_sought}
use Rattle.program_say.specs.Sought.{SoughtFacts, bytes_found}
use Rattle.program_say.specs.declared.subjects.refusal_detail.ToldRefusal.{ToldRefusal}

-- ---- an entry of a description

as_many : {A : Type 0} (entry : loaded.Entry A) → length (files_of entry) ≡ file_count entry
as_many {A} (Multiboot2 kernel line modules rsdp_old rsdp_new) =
    let files = length-map modules.items (λ (m : Module A). m.file) in omega (arith, files)
as_many (Linux kernel line None wide) = refl
as_many (Linux kernel line (Some file) wide) = refl

-- an entry that is made of one of a description, with what was found for the names of its files
module _ {A : Type 0} (entry : loaded.Entry A) (names texts : List (List ℕ)) (e : Entry)
    (sought : SoughtFacts) (made : facts_of entry ≡ entry_facts names e)
    (are : texts ≡ map (bytes_found sought) (file_names e)) where
  -- it has as many files
  pub counted_files : length texts ≡ file_count entry
  counted_files =
      ap length are ∙ length-map (file_names e) (bytes_found sought)
      ∙ sym (length-map (file_names e) (file_index names))
      ∙ sym (ap (λ (f : EntryFacts). length f.files) made) ∙ as_many entry

  -- and this value
  pub value_found : value_of texts entry ≡ value_sought sought e
  value_found =
      sym (value_is entry texts) ∙ ap (λ (f : EntryFacts). value_with f texts) made
      ∙ ap (λ (found : List (List ℕ)). value_with (entry_facts names e) found) are

-- ---- frames

-- those beside the places of a plan
pub beside_plan : {A : Type 0} (facts : MachineFacts) (value : EntryValue)
    (texts : List (List ℕ)) (size : ℕ) (plan : Plan A) (count : ℕ)
    → IsHandover facts value (handover_by texts plan) → IsLoadable (lengths_of texts) size plan
    → count ≡ open_frames facts.pool (map place_range (places_of plan))
    → AreFramesBeside facts value (Some count)
beside_plan facts value texts size plan count is loadable counted = (
  handover_by texts plan,
  is,
  counted
      ∙ ap (open_frames facts.pool) (sym (ranges_are texts plan.parts.items loadable.backed)),
)

-- ---- refusals, one after the other

pub one_more_told : (refused : List RefusedEntry) (told : List ToldRefusal) (i : ℕ)
    (t : ToldRefusal) (d : RefusedEntry) → i < length refused
    → map (λ x. x.refused) told ≡ take i refused → t.refused ≡ get_or refused i d
    → map (λ x. x.refused) (told ++ t ∷ []) ≡ take (i + 1) refused
one_more_told refused told i t d within so same =
    map-append (λ (x : ToldRefusal). x.refused) told (t ∷ [])
    ∙ ap (λ (xs : List RefusedEntry). xs ++ t.refused ∷ []) so
    ∙ ap (λ (x : RefusedEntry). take i refused ++ x ∷ []) same
    ∙ sym (take_more refused i d within)
