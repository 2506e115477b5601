-- The result of an attempt to boot an entry: the entry is handed over, or refused. Own.
use Rattle.std.specs.Prelude.{◌≡◌, ◌⊎◌, ℕ, ◌+◌, List, [], ◌∷◌, map, Option, Some, None, option_map}
use Rattle.std.specs.Prelude.{unwrap_or, if◌then◌else◌, nat_lt}
use Rattle.std.specs.Option.{option_or}
use Rattle.std.specs.declared.ops.Range.{Range}
use Rattle.bl_map.specs.MachineFacts.{MachineFacts}
use Rattle.bl_map.specs.PoolFrames.{frames_in, HasFramesFor, frames_for}
use Rattle.bl_load.specs.declared.refusal.Refusal.{Refusal}
use Rattle.bl_load.specs.declared.refusal.Refusal.TheVariants.{NoFile, FileFault, FileTooLong}
use Rattle.bl_load.specs.declared.refusal.Refusal.TheVariants.{NoPool}
use Rattle.bl_load.specs.EntryValue.{EntryValue}
use Rattle.bl_load.specs.Handover.{Part, Handover, end_of}
use Rattle.bl_load.specs.Parts.{IsHandover, IsRefusal}
use Rattle.bl_stage.specs.Files.{file_limit}

pub data AttemptResult : Type 0 where
  handed : Handover → AttemptResult
  refused : Refusal → AttemptResult

-- ---- before any piece comes: by the sizes of the entry's files, in order, the kernel's first;
-- None is a missing file

-- the first file that is missing or has too many bytes, from this place on
abbrev pub file_refusal : ℕ → List (Option ℕ) → Option Refusal
file_refusal place [] = None
file_refusal place (None ∷ sizes) = Some (NoFile place)
file_refusal place (Some size ∷ sizes) =
    if nat_lt file_limit size then Some (FileTooLong place) else file_refusal (place + 1) sizes

abbrev pub known_lengths : List (Option ℕ) → List ℕ
known_lengths sizes = map (λ size. unwrap_or size 0) sizes

-- files of these lengths, each in frames of its own, need more frames than the pool has
abbrev pub pool_refusal : MachineFacts → List ℕ → Option Refusal
pool_refusal facts lengths =
    if nat_lt (frames_in facts.pool) (frames_for lengths) then Some NoPool else None

-- what the sizes refuse an entry for: a file, and else the pool
abbrev pub size_refusal : MachineFacts → List (Option ℕ) → Option Refusal
size_refusal facts sizes =
    option_or (file_refusal 0 sizes) (pool_refusal facts (known_lengths sizes))

-- ---- once each file is whole: by the entry's value

abbrev pub part_range : Part → Range ℕ
part_range part = record { start = part.address; end = end_of part }

-- beside the parts the pool has frames enough for the files, each file in frames of its own
abbrev pub HasFramesBeside : MachineFacts → EntryValue → Handover → Type 0
HasFramesBeside facts value handover =
    HasFramesFor facts.pool (map part_range handover.parts) value.files

-- the entry could be handed over, but the pool has too few frames beside its parts
pub record LacksFrames (facts : MachineFacts) (value : EntryValue) : Type 0 where
  pub handover : Handover
  pub is : IsHandover facts value handover
  pub lacking : ¬ HasFramesBeside facts value handover

-- the result of an attempt whose files are whole
abbrev pub HasWholeFilesResult : MachineFacts → EntryValue → AttemptResult → Type 0
HasWholeFilesResult facts value (handed handover) =
    IsHandover facts value handover × HasFramesBeside facts value handover
HasWholeFilesResult facts value (refused refusal) =
    IsRefusal facts value refusal ⊎ (LacksFrames facts value × (refusal ≡ NoPool))

-- ---- a whole attempt

-- if the check refuses, that is the result; else the rest tells it
abbrev pub UnlessRefused : Option Refusal → (AttemptResult → Type 0) → AttemptResult → Type 0
UnlessRefused None rest result = rest result
UnlessRefused (Some refusal) rest result = result ≡ refused refusal

-- the result of an attempt with these sizes of its files, the place of a file of which a fault
-- came, or None, and this value of its entry
abbrev pub AttemptHasResult :
    MachineFacts → List (Option ℕ) → Option ℕ → EntryValue → AttemptResult → Type 0
AttemptHasResult facts sizes faulty value =
    UnlessRefused (size_refusal facts sizes)
    (UnlessRefused (option_map FileFault faulty) (HasWholeFilesResult facts value))
