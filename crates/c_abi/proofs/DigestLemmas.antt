-- A digest is that of all files of an entry.
use Rattle.std.proofs.Common.{◌≡◌, ◌≤◌, ℕ, List, [], ◌∷◌, All, length, map}
use Rattle.std.proofs.Common.{ap, sym, subst, refl, arith}
use Rattle.std.proofs.Common.{Result, Ok, Err, IfOk, IfErr, OnOk}
use Rattle.std.proofs.lemmas.List.Elements.{All-nil, All-cons, All-head, All-tail, All-append}
use Rattle.bl_map.specs.MachineFacts.{MachineFacts}
use Rattle.bl_load.specs.declared.entry.Entry.{Entry}
use Rattle.bl_load.specs.declared.plan.Plan.{Plan}
use Rattle.bl_load.specs.declared.step.Step.{Step}
use Rattle.bl_load.specs.declared.step.StepSource.{StepSource}
use Rattle.bl_load.specs.declared.step.StepSource.TheVariants.{File, Own, Zeros}
use Rattle.bl_load.specs.EntryValue.{EntryValue, value_of}
use Rattle.bl_load.specs.LeanPlans.{IsLean}
use Rattle.bl_load.specs.Loadable.{lengths_of, IsLoadable}
use Rattle.bl_load.specs.Origins.{planned_origin, AreOrigins}
use Rattle.bl_load.specs.Parts.{IsHandover}
use Rattle.bl_load.specs.PlanContents.{handover_by}
use Rattle.bl_load.specs.PlanSteps.{own_bytes, steps_from}
use Rattle.bl_load.specs.Steps.{IsStep, IsThere}
use Rattle.bl_load.proofs.StepOriginLemmas.{by_origins, lean_origins}
use Rattle.bl_load.proofs.StepSourceLemmas.{plan_sound}
use Rattle.bl_digest.specs.DigestsFacts.{DigestsFacts}
use Rattle.bl_digest.specs.PlanInSteps.{DigestingFacts, handover_in_steps, plan_in_steps}
use Rattle.bl_digest.specs.Ranges.{ranges_of, source_ranges}
use Rattle.bl_digest.specs.declared.file_range.FileRange.{FileRange}
use Rattle.c_records.specs.declared.given_records.EntryRecord.{EntryRecord}
use Rattle.c_records.specs.declared.given_records.MachineRecord.{MachineRecord}
use Rattle.c_records.specs.declared.load_fault.LoadFault.{LoadFault}
use Rattle.c_abi.specs.Digest.{IsGivenDigestEnd, IsGivenDigestsEnd, IsInFile, ranges_wanted}
use Rattle.c_records.specs.Given.{entry_without_files, texts_given, value_with}
use Rattle.c_abi.specs.Load.{bad_entry, IsEntryFault}
use Rattle.c_records.specs.EntryFaults.{IsEntrySound}
use Rattle.c_records.specs.Machines.{IsMachineGiven, IsMachineSound}
use Rattle.c_abi.specs.Plan.{file_lengths, HasStepsOf}
use Rattle.c_abi.specs.Prepare.{AreFilesOf}
use Rattle.c_abi.specs.internal.Digests.{AreDigestsOn, IsDigestOn}
use Rattle.c_abi.proofs.LoadLemmas.{given_value}
use Rattle.c_abi.proofs.PlanLemmas.{by_lengths}

-- ---- the ranges

source_in_file : (lengths : List ℕ) (own count : ℕ) (source : StepSource) → 1 ≤ count
    → IsThere lengths own source count → All (IsInFile lengths) (source_ranges source count)
source_in_file lengths own count (File file offset) some there =
    let range : FileRange = record { file = file; offset = offset; length = count } in
    All-cons (IsInFile lengths) range [] (record { filled = some; file = there.0; inside = there.1 })
    (All-nil (IsInFile lengths))
source_in_file lengths own count (Own offset) some there = All-nil (IsInFile lengths)
source_in_file lengths own count Zeros some there = All-nil (IsInFile lengths)

-- the ranges of steps that can be carried out lie in the files
ranges_in_files : (lengths : List ℕ) (own size : ℕ) (steps : List Step)
    → All (IsStep lengths own size) steps → All (IsInFile lengths) (ranges_of steps)
ranges_in_files lengths own size [] sound = All-nil (IsInFile lengths)
ranges_in_files lengths own size (step ∷ steps) sound =
    let first = All-head (IsStep lengths own size) step steps sound in
    All-append (IsInFile lengths) (source_ranges step.source step.length) (ranges_of steps)
    (source_in_file lengths own step.length step.source first.filled first.there)
    (ranges_in_files lengths own size steps
    (All-tail (IsStep lengths own size) step steps sound))

-- ---- the digest

module _ {A B : Type 0} (facts : MachineFacts) (r : EntryRecord) (entry : Entry B) (plan : Plan A)
    (loadable : (texts : List (List ℕ)) → AreFilesOf r texts
    → IsLoadable (lengths_of texts) facts.size plan) (digest : DigestingFacts)
    (begun : digest ≡ record { plan = plan_in_steps plan; fed = [] }) where
  inside : All (IsInFile (file_lengths r)) (ranges_wanted digest)
  inside =
      subst (λ (d : DigestingFacts). All (IsInFile (file_lengths r)) (ranges_wanted d)) (sym begun)
      (ranges_in_files (file_lengths r) (length (own_bytes plan.parts.items)) facts.size
      (steps_from 0 plan.parts.items)
      (plan_sound (file_lengths r) facts.size plan (by_lengths facts r entry plan loadable)))

  has_steps : value_of [] entry ≡ entry_without_files r → IsLean plan.parts.items
      → ((texts : List (List ℕ)) → AreFilesOf r texts
      → AreOrigins facts (value_of texts entry) (map planned_origin plan.parts.items))
      → (texts : List (List ℕ)) → AreFilesOf r texts
      → HasStepsOf facts (value_with r texts) digest.plan.steps digest.plan.own
  has_steps is lean come texts files =
      let parts = map planned_origin plan.parts.items in
      subst
      (λ (d : DigestingFacts). HasStepsOf facts (value_with r texts) d.plan.steps d.plan.own)
      (sym begun)
      (record {
        parts = parts;
        come_from =
            subst (λ (v : EntryValue). AreOrigins facts v parts)
            (given_value r entry texts texts is refl) (come texts files);
        lean = lean_origins plan.parts.items lean;
        steps_are = (by_origins 0 plan.parts.items).0;
        own_is = (by_origins 0 plan.parts.items).1;
      })

  pub is_digest_on : value_of [] entry ≡ entry_without_files r → IsLean plan.parts.items
      → ((texts : List (List ℕ)) → AreFilesOf r texts
      → AreOrigins facts (value_of texts entry) (map planned_origin plan.parts.items))
      → ((texts : List (List ℕ)) → AreFilesOf r texts
      → IsHandover facts (value_of texts entry) (handover_by texts plan))
      → ((texts : List (List ℕ)) (size : ℕ) → IsLoadable (lengths_of texts) size plan
      → handover_in_steps texts digest.plan ≡ handover_by texts plan)
      → IsDigestOn facts r digest
  is_digest_on is lean come handed same = record {
    begins = ap (λ (d : DigestingFacts). d.fed) begun;
    inside = inside;
    is_plan = has_steps is lean come;
    handed = λ texts files.
        subst (IsHandover facts (value_with r texts))
        (sym (same texts facts.size (loadable texts files)))
        (subst (λ (v : EntryValue). IsHandover facts v (handover_by texts plan))
        (given_value r entry texts texts is refl) (handed texts files));
  }

-- ---- on the machine that is given

module _ (machine : MachineRecord) (entry : EntryRecord) (facts : MachineFacts)
    (is : IsMachineGiven machine facts) (whole : IsMachineSound machine) where
  pub given_digest_end : (end : Result DigestingFacts LoadFault)
      → IfOk end (IsDigestOn facts entry) → OnOk end (IsEntrySound entry)
      → IfErr end (λ fault. (texts : List (List ℕ)) → AreFilesOf entry texts
      → IsEntryFault facts entry texts 0 fault)
      → IsGivenDigestEnd machine entry end
  given_digest_end (Ok digest) on sound fault = record {
    facts = facts;
    machine_is = is;
    machine_sound = whole;
    entry_sound = sound;
    begins = on.begins;
    inside = on.inside;
    is_plan = on.is_plan;
    handed = on.handed;
  }
  given_digest_end (Err found) on sound fault = λ texts files.
      bad_entry (omega arith) whole (omega arith) found
      (record { facts = facts; machine_is = is; is = fault texts files })

  pub given_digests_end : (end : Result DigestsFacts LoadFault)
      → IfOk end (AreDigestsOn facts entry) → OnOk end (IsEntrySound entry)
      → IfErr end (IsEntryFault facts entry (texts_given entry) 0)
      → IsGivenDigestsEnd machine entry end
  given_digests_end (Ok digests) on sound fault = record {
    facts = facts;
    machine_is = is;
    machine_sound = whole;
    entry_sound = sound;
    handover = on.handover;
    handed = on.handed;
    digests_are = on.digests_are;
  }
  given_digests_end (Err found) on sound fault =
      bad_entry (omega arith) whole (omega arith) found
      (record { facts = facts; machine_is = is; is = fault })
