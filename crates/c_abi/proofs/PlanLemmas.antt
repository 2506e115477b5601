-- A plan is that of all files of an entry.
use Rattle.std.proofs.Common.{◌≡◌, ◌≤◌, ◌<◌, ◌+◌, ◌^◌, ◌∙◌, ℕ, List, [], ◌∷◌, All, AllPairs, length}
use Rattle.std.proofs.Common.{suc, map, replicate, ap, sym, subst, refl, arith, Some, None}
use Rattle.std.proofs.lemmas.List.{length-map, length-replicate}
use Rattle.std.proofs.lemmas.List.Elements.{All-weaker}
use Rattle.bl_map.specs.MachineFacts.{MachineFacts, IsWellFormedMachine}
use Rattle.bl_load.specs.declared.entry.Entry.{Entry}
use Rattle.bl_load.specs.declared.entry.Entry.TheVariants.{Multiboot2, Linux}
use Rattle.bl_load.specs.declared.plan.Plan.{Plan}
use Rattle.bl_load.specs.declared.plan.PlannedPart.{PlannedPart}
use Rattle.bl_load.specs.declared.step.Steps.{Steps}
use Rattle.bl_load.specs.declared.step.StepSource.{StepSource}
use Rattle.bl_load.specs.declared.step.StepSource.TheVariants as source
use Rattle.bl_load.specs.declared.step.Step.{Step}
use Rattle.bl_load.specs.LeanPlans.{IsLean}
use Rattle.bl_load.specs.Origins.{planned_origin, AreOrigins}
use Rattle.bl_load.specs.PlanLimits.{max_steps, max_own}
use Rattle.bl_load.specs.PlanSteps.{steps_from, own_bytes}
use Rattle.bl_load.proofs.PlanLimitLemmas.{steps_limit, own_limit}
use Rattle.bl_load.proofs.StepOriginLemmas.{by_origins, lean_origins}
use Rattle.bl_load.specs.EntryValue.{EntryValue, HasLimits, IsWithinLimits, file_count, value_of}
use Rattle.bl_load.specs.Handover.{overwrite_parts}
use Rattle.bl_load.specs.FilesByLengths.{HaveKernelAndLengths}
use Rattle.bl_load.specs.Loadable.{lengths_of, IsLoadable}
use Rattle.bl_load.specs.Parts.{IsHandover}
use Rattle.bl_load.specs.PlanContents.{handover_by}
use Rattle.bl_load.specs.Steps.{carry_out, IsStep, IsThere, StepsAscend, CanBeLoaded}
use Rattle.c_records.specs.declared.given_records.EntryRecord.{EntryRecord}
use Rattle.c_records.specs.declared.given_records.FileRecord.{FileRecord}
use Rattle.c_records.specs.Given.{files_beside, files_given, lengths_beside, value_with}
use Rattle.c_abi.specs.Plan.{file_lengths}
use Rattle.c_abi.specs.Prepare.{AreFilesOf}
use Rattle.c_abi.specs.PlanTold.{source_file}
use Rattle.c_abi.specs.internal.Plans.{HasSmallFile, IsPlanOn, plan_facts}
use Rattle.c_abi.specs.internal.TakenEntries.{IsTakenFrom}
use Rattle.c_abi.proofs.LoadLemmas.{given_value}
use Rattle.c_abi.proofs.PrepareLemmas.{plan_says}

-- ---- files that an entry may have

abbrev blank : ℕ → List ℕ
blank size = replicate size 0

blank_lengths : (sizes : List ℕ) → lengths_of (map blank sizes) ≡ sizes
blank_lengths [] = refl
blank_lengths (n ∷ sizes) =
    ap (λ m. m ∷ lengths_of (map blank sizes)) (omega (arith, length-replicate {A = ℕ}))
    ∙ ap (λ ms. n ∷ ms) (blank_lengths sizes)

abbrev pub some_files : EntryRecord → List (List ℕ)
some_files r = r.kernel.bytes.now ∷ map blank (lengths_beside r)

pub have_some : (r : EntryRecord) → AreFilesOf r (some_files r)
have_some r = record {
  others = map blank (lengths_beside r);
  are = refl;
  are_long = blank_lengths (lengths_beside r);
}

some_lengths : (r : EntryRecord) → lengths_of (some_files r) ≡ file_lengths r
some_lengths r = ap (λ ms. length r.kernel.bytes.now ∷ ms) (blank_lengths (lengths_beside r))

-- files of an entry have its kernel and its lengths, wherever these are kept
pub same_files : (r : EntryRecord) (kernel lengths : List ℕ) (texts : List (List ℕ))
    → kernel ≡ r.kernel.bytes.now → lengths ≡ lengths_beside r → AreFilesOf r texts
    → HaveKernelAndLengths kernel lengths texts
same_files r kernel lengths texts is are files =
    subst (λ (k : List ℕ). HaveKernelAndLengths k lengths texts) (sym is)
    (subst (λ (ns : List ℕ). HaveKernelAndLengths r.kernel.bytes.now ns texts) (sym are) files)

-- ---- how many there are

pub count_lengths : (r : EntryRecord) → length (file_lengths r) ≡ length (files_given r)
count_lengths r = ap suc (length-map (files_beside r) (λ (f : FileRecord). f.length))

pub count_beside : (r : EntryRecord) → 1 + length (lengths_beside r) ≡ length (files_given r)
count_beside r =
    let same : length (lengths_beside r) ≡ length (files_beside r) =
    length-map (files_beside r) (λ (f : FileRecord). f.length) in
    let all : length (files_given r) ≡ suc (length (files_beside r)) = refl in
    omega (arith, same, all)

few_files : {A : Type 0} (entry : Entry A) → IsWithinLimits entry → file_count entry ≤ 65
unfolding IsWithinLimits
few_files (Multiboot2 kernel line modules rsdp_old rsdp_new) within =
    let few = within.few in omega (arith, few, length-map modules.items (λ m. m.line))
few_files (Linux kernel line (Some file) wide) within = omega arith
few_files (Linux kernel line None wide) within = omega arith

-- a plan has a place for each part
pub count_places : {A : Type 0} (parts : List (PlannedPart A))
    → length (map (λ part. part.place) parts) ≡ length parts
count_places parts = length-map parts (λ part. part.place)

-- ---- the steps

small_source : (lengths : List ℕ) (own count : ℕ) (from : StepSource) → length lengths ≤ 65
    → IsThere lengths own from count → source_file from < 2 ^ 32
small_source lengths own count (source.File file offset) few there =
    let low = there.0 in omega (arith, few, low)
small_source lengths own count (source.Own offset) few there = omega arith
small_source lengths own count source.Zeros few there = omega arith

module _ {A B : Type 0} (facts : MachineFacts) (r : EntryRecord) (entry : Entry B) (plan : Plan A)
    (loadable : (texts : List (List ℕ)) → AreFilesOf r texts
    → IsLoadable (lengths_of texts) facts.size plan) where
  pub can_be : CanBeLoaded plan
  can_be = (lengths_of (some_files r), facts.size, loadable (some_files r) (have_some r))

  pub by_lengths : IsLoadable (file_lengths r) facts.size plan
  by_lengths =
      subst (λ (ns : List ℕ). IsLoadable ns facts.size plan) (some_lengths r)
      (loadable (some_files r) (have_some r))

  pub few_parts : length plan.parts.items ≤ 256
  few_parts =
      let few = by_lengths.kept.few in
      omega (arith, few, count_places plan.parts.items)

  module _ (told : Steps A) (sound : (lengths : List ℕ) (size : ℕ) → IsLoadable lengths size plan
      → All (IsStep lengths (length told.own) size) told.steps.items) where
    steps_sound : All (IsStep (file_lengths r) (length told.own) facts.size) told.steps.items
    steps_sound = sound (file_lengths r) facts.size by_lengths

    pub small_files : IsWithinLimits entry → file_count entry ≡ length (files_given r)
        → All HasSmallFile told.steps.items
    small_files within count =
        let most = few_files entry within in
        All-weaker (IsStep (file_lengths r) (length told.own) facts.size) HasSmallFile
        (λ step is.
        small_source (file_lengths r) (length told.own) step.length step.source
        (omega (arith, most, count, count_lengths r)) is.there) told.steps.items steps_sound

    pub is_plan_on : IsTakenFrom r entry → IsWellFormedMachine facts → IsLean plan.parts.items
        → ((texts : List (List ℕ)) → AreFilesOf r texts
        → AreOrigins facts (value_of texts entry) (map planned_origin plan.parts.items))
        → ((texts : List (List ℕ)) → AreFilesOf r texts
        → IsHandover facts (value_of texts entry) (handover_by texts plan))
        → ((texts : List (List ℕ)) (size : ℕ) (memory : List ℕ)
        → IsLoadable (lengths_of texts) size plan → size ≤ length memory
        → carry_out told.steps.items told.own texts memory
        ≡ overwrite_parts (handover_by texts plan).parts memory)
        → told.steps.items ≡ steps_from 0 plan.parts.items
        → told.own ≡ own_bytes plan.parts.items → AllPairs StepsAscend told.steps.items
        → IsPlanOn facts r (plan_facts (record { plan = plan; told = told }))
    is_plan_on taken machine lean come handed carried steps own ascend =
        let parts = map planned_origin plan.parts.items in
        let steps_are = steps ∙ (by_origins 0 plan.parts.items).0 in
        let own_is = own ∙ (by_origins 0 plan.parts.items).1 in
        let hands : (texts : List (List ℕ)) → AreFilesOf r texts
        → IsHandover facts (value_with r texts) (handover_by texts plan) =
        λ texts files.
        subst (λ (v : EntryValue). IsHandover facts v (handover_by texts plan))
        (given_value r entry texts texts taken.value refl) (handed texts files) in
        let from : (texts : List (List ℕ)) → AreFilesOf r texts
        → AreOrigins facts (value_with r texts) parts =
        λ texts files.
        subst (λ (v : EntryValue). AreOrigins facts v parts)
        (given_value r entry texts texts taken.value refl) (come texts files) in
        let some = some_files r in
        let limits : HasLimits (value_with r some) = record {
          few = taken.sound.limits.few;
          rsdp_old = taken.sound.limits.rsdp_old;
          rsdp_new = taken.sound.limits.rsdp_new;
        } in
        let few_steps =
        steps_limit facts (value_with r some) limits parts (from some (have_some r)) in
        let few_own =
        own_limit facts (value_with r some) limits machine (hands some (have_some r)).lines parts
        (from some (have_some r)) in
        record {
          is_plan = λ texts files. record {
            is = record {
              parts = parts;
              come_from = from texts files;
              lean = lean_origins plan.parts.items lean;
              steps_are = steps_are;
              own_is = own_is;
            };
            loads = record {
              handover = handover_by texts plan;
              handed = hands texts files;
              written = λ memory large.
                  carried texts facts.size memory (loadable texts files) large;
            };
            handoff_is = plan_says texts facts.size plan (loadable texts files);
          };
          sound = steps_sound;
          ascending = ascend;
          few_places = by_lengths.kept.few;
          few_steps =
              subst (λ (steps : List Step). length steps ≤ max_steps) (sym steps_are) few_steps;
          few_own = subst (λ (bytes : List ℕ). length bytes ≤ max_own) (sym own_is) few_own;
        }
