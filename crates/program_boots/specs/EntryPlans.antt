-- What the code keeps of the plan of one entry, or of its refusal.
use Rattle.std.specs.Prelude.{◌≡◌, ℕ, List, map, slice_index_or, Option, None, Some}
use Rattle.bl_map.specs.MachineFacts.{MachineFacts}
use Rattle.bl_load.specs.Loadable.{lengths_of, IsLoadable}
use Rattle.bl_load.specs.PlanContents.{handover_by}
use Rattle.bl_load.specs.declared.plan.Plan.{Plan}
use Rattle.bl_load.specs.declared.refusal.PrepFault.{PrepFault}
use Rattle.bl_load.specs.declared.refusal.PrepFault.TheVariants as prep_fault
use Rattle.bl_stage.specs.Files.{File, missing, size_of, file_bytes}
use Rattle.bl_session.specs.attempt.AttemptResult.{AttemptResult, handed, refused}
use Rattle.bl_session.specs.attempt.AttemptResult.{AttemptHasResult, file_refusal}
use Rattle.bl_session.specs.menu.Menu.{EntryFacts, value_with}

-- the sizes of the files of these indices
abbrev pub file_sizes : List File → List ℕ → List (Option ℕ)
file_sizes files indices = map (λ file. slice_index_or (map size_of files) file None) indices

-- what they hold
abbrev pub file_texts : List File → List ℕ → List (List ℕ)
file_texts files indices = map (λ file. file_bytes (slice_index_or files file missing)) indices

-- the attempt of an entry with these files has this result
abbrev pub EntryEnds : MachineFacts → EntryFacts → List File → AttemptResult → Type 0
EntryEnds facts entry files =
    AttemptHasResult facts (file_sizes files entry.files) None
    (value_with entry (file_texts files entry.files))

-- what is loaded for an entry that is not refused
pub record IsEntryPlan {A : Type 0} (facts : MachineFacts) (entry : EntryFacts)
    (files : List File) (plan : Plan A) : Type 0 where
  pub ends : EntryEnds facts entry files
      (handed (handover_by (file_texts files entry.files) plan))
  pub loadable : IsLoadable (lengths_of (file_texts files entry.files)) facts.size plan

-- why there is no such plan: the entry is refused, or memory ran out
abbrev pub IsPlanFault : MachineFacts → EntryFacts → List File → PrepFault → Type 0
IsPlanFault facts entry files (prep_fault.Refused refusal) =
    EntryEnds facts entry files (refused refusal)
IsPlanFault facts entry files prep_fault.NoMemory = Unit {0}

-- why files of these sizes are not taken, unless memory ran out
abbrev pub IsSizesFault : List (Option ℕ) → PrepFault → Type 0
IsSizesFault sizes (prep_fault.Refused refusal) = file_refusal 0 sizes ≡ Some refusal
IsSizesFault sizes prep_fault.NoMemory = Unit {0}
