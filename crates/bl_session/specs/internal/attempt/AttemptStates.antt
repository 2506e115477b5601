-- Where an attempt stands, and what memory holds then.
use Rattle.std.specs.Prelude.{◌≡◌, ℕ, List, map, length, true, false, Option, None, Some}
use Rattle.std.specs.Prelude.{MatchOption, Result, IfOk, OnErr}
use Rattle.std.specs.declared.ops.Range.{Range}
use Rattle.bl_map.specs.MachineFacts.{MachineFacts}
use Rattle.bl_mem.specs.Memory.{HasRoom}
use Rattle.bl_load.specs.EntryValue.{IsWithinLimits}
use Rattle.bl_load.specs.MemoryAfter.{IsMemoryAfter}
use Rattle.bl_load.specs.declared.entry.Entry.{Entry}
use Rattle.bl_load.specs.declared.refusal.Refusal.{Refusal}
use Rattle.bl_stage.specs.Ranges.{IsSameOutside}
use Rattle.bl_stage.specs.PieceStates.{PieceState, piece_states, came_bytes}
use Rattle.bl_stage.specs.Staged.{Staging}
use Rattle.bl_session.specs.declared.attempt.Attempt.{Attempt}
use Rattle.bl_session.specs.declared.attempt.Attempt.TheVariants.{Waits, Ended}
use Rattle.bl_session.specs.declared.attempt.AttemptEnd.{AttemptEnd}
use Rattle.bl_session.specs.declared.attempt.AttemptEnd.TheVariants.{HandedOver, Refused}
use Rattle.bl_session.specs.attempt.AttemptResult.{handed, refused, HasWholeFilesResult}
use Rattle.bl_session.specs.attempt.AttemptResult.{size_refusal}
use Rattle.bl_session.specs.attempt.AttemptResult.{known_lengths}
use Rattle.bl_session.specs.menu.Menu.{EntryFacts, files_of, value_with}
use Rattle.bl_session.specs.attempt.AwaitedPieces.{are_whole, waiting_files}
use Rattle.bl_session.specs.session.Phases.{handover_held, LiesWithin}
use Rattle.bl_session.specs.internal.session.KeptPhases.{HasSmallFiles, LacksPiece}
use Rattle.bl_session.specs.internal.session.KeptPhases.{sizes_in}

-- memory has the machine's size, and the pool its room
pub record HasPoolRoom (machine : MachineFacts) (bytes : List ℕ) (has_room : ℕ → Type 0)
    : Type 0 where
  pub size : length bytes ≡ machine.size
  pub room : HasRoom has_room machine.pool.start machine.pool.end

-- an attempt with this stage, unless it has ended
abbrev pub attempt_with : {A : Type 0} → Staging → Option (AttemptEnd A) → Attempt A
attempt_with stage None = Waits stage
attempt_with stage (Some end) = Ended end

-- with these pieces of its files it waits for what is missing, or ends by its entry's value
abbrev pub IsAttempt :
    {A : Type 0} → MachineFacts → EntryFacts → List (List PieceState) → (bytes : List ℕ) → Attempt A
    → Type 0
IsAttempt facts entry files bytes (Waits stage) =
    (are_whole files ≡ false) × (piece_states bytes stage ≡ files)
IsAttempt facts entry files bytes (Ended (HandedOver handoff)) =
    (are_whole files ≡ true)
    × HasWholeFilesResult facts (value_with entry (map came_bytes files))
    (handed (handover_held bytes handoff))
IsAttempt facts entry files bytes (Ended (Refused refusal)) =
    (are_whole files ≡ true)
    × HasWholeFilesResult facts (value_with entry (map came_bytes files)) (refused refusal)

-- it is refused for this
abbrev pub IsRefusedFor : {A : Type 0} → Attempt A → Refusal → Type 0
IsRefusedFor (Waits stage) refusal = ⊥
IsRefusedFor (Ended (HandedOver handoff)) refusal = ⊥
IsRefusedFor (Ended (Refused r)) refusal = r ≡ refusal

-- it begins, if its files' sizes don't refuse it
abbrev pub IsAttemptBegun :
    {A : Type 0} → MachineFacts → EntryFacts → List (Option ℕ) → (bytes : List ℕ) → Attempt A
    → Type 0
IsAttemptBegun facts entry sizes bytes attempt =
    MatchOption (size_refusal facts sizes)
    (IsAttempt facts entry (waiting_files (known_lengths sizes)) bytes attempt)
    (IsRefusedFor attempt)

-- the stage that it waits with is one of so many files, and lacks a piece; each part that it hands
-- over lies within memory
abbrev pub KeepsAttempt : {A : Type 0} → MachineFacts → ℕ → Attempt A → Type 0
KeepsAttempt facts count (Waits stage) =
    (stage.pool ≡ facts.pool) × (length stage.sizes ≡ count) × HasSmallFiles stage
    × LacksPiece stage
KeepsAttempt facts count (Ended (HandedOver handoff)) = LiesWithin facts.size handoff
KeepsAttempt facts count (Ended (Refused refusal)) = Unit {0}

-- memory beside: after a handover it is that which is handed over; else no byte outside the pool
-- changed
abbrev pub IsMemoryAfterAttempt : {A : Type 0} → Range ℕ → (old new : List ℕ) → Attempt A → Type 0
IsMemoryAfterAttempt pool old new (Waits stage) = IsSameOutside pool old new
IsMemoryAfterAttempt pool old new (Ended (HandedOver handoff)) =
    IsMemoryAfter pool (handover_held new handoff).parts old new
IsMemoryAfterAttempt pool old new (Ended (Refused refusal)) = IsSameOutside pool old new

-- an attempt can end with this stage: it is one for the entry's files, in the machine's pool, which
-- has room
pub record HasAttemptStage {A : Type 0} (facts : MachineFacts) (entry : Entry A) (stage : Staging)
    (bytes : List ℕ) (has_room : ℕ → Type 0) : Type 0 where
  pub limits : IsWithinLimits entry
  pub files : length stage.sizes ≡ length (files_of entry)
  pub small : HasSmallFiles stage
  pub pool : stage.pool ≡ facts.pool
  pub size : length bytes ≡ facts.size
  pub room : HasRoom has_room facts.pool.start facts.pool.end

-- an attempt with this stage ended if no piece is missing, and else waits on; or memory ran out
pub record EndsOrWaits {A E : Type 0} (facts : MachineFacts) (entry : EntryFacts)
    (stage left : Staging) (old new : List ℕ) (result : Result (Option (AttemptEnd A)) E)
    : Type 0 where
  pub attempt : IfOk result
      (λ end. IsAttempt facts entry (piece_states old stage) new (attempt_with left end))
  pub keeps : IfOk result (λ end. KeepsAttempt facts (length entry.files) (attempt_with left end))
  pub memory : IfOk result
      (λ end. IsMemoryAfterAttempt facts.pool old new (attempt_with left end))
  pub same : IfOk result (λ end. end ≡ None → left ≡ stage)
  pub err : OnErr result (IsSameOutside facts.pool old new)
  pub whole : OnErr result (are_whole (piece_states old stage) ≡ true)

-- an attempt at an entry began, with these sizes of the menu's files: it waits, or ended at once;
-- or memory ran out
pub record BeginsOrEnds {A E : Type 0} (facts : MachineFacts) (entry : EntryFacts)
    (sizes : List (Option ℕ)) (old new : List ℕ) (result : Result (Attempt A) E) : Type 0 where
  pub begun : IfOk result
      (IsAttemptBegun facts entry (sizes_in sizes entry.files) new)
  pub keeps : IfOk result (KeepsAttempt facts (length entry.files))
  pub memory : IfOk result (IsMemoryAfterAttempt facts.pool old new)
  pub err : OnErr result (IsSameOutside facts.pool old new)
