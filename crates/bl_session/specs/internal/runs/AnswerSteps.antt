-- What a session comes to as a run takes answers: by one of them, by those that an attempt awaits,
-- by those of all attempts, by the whole run.
use Rattle.std.specs.Prelude.{◌≡◌, ◌≢◌, ◌<◌, ℕ, List, length, map, true, false, Result, Ok, Err}
use Rattle.bl_map.specs.MachineFacts.{MachineFacts}
use Rattle.bl_mem.specs.Memory.{HasRoom}
use Rattle.bl_stage.specs.Files.{File, size_of}
use Rattle.bl_stage.specs.Ranges.{IsSameOutside}
use Rattle.bl_session.specs.declared.session.outcome.Progress.{Progress}
use Rattle.bl_session.specs.declared.session.outcome.Progress.TheVariants.{Waiting}
use Rattle.bl_session.specs.session.BootSteps.{BootFacts, attempt_number, is_running}
use Rattle.bl_session.specs.session.BootSteps.{out_of_memory}
use Rattle.bl_session.specs.session.BootSteps as steps
use Rattle.bl_store.specs.History.{HistoryItem}
use Rattle.bl_session.specs.menu.Menu.{MenuFacts}
use Rattle.bl_session.specs.session.BootMemory.{IsMemoryAt}
use Rattle.bl_session.specs.session.Phases.{SessionFacts, boot_facts, state_at, is_waiting}
use Rattle.bl_session.specs.session.Phases.{not_started}
use Rattle.bl_session.specs.runs.Run.{RunState, run_state_of, IsRun}
use Rattle.bl_session.specs.internal.runs.RunParts.{HistoryLeadsOn, all_asked, attempts_left}
use Rattle.bl_session.specs.internal.runs.RunParts.{run_state_after}

-- an attempt of a session waits, in memory of these bytes, where these addresses have room
pub record WaitsInMemory (session : SessionFacts) (bytes : List ℕ) (has_room : ℕ → Type 0)
    : Type 0 where
  -- it waits for a piece
  pub waiting : is_waiting session.phase ≡ true
  -- memory has the machine's size
  pub size : length bytes ≡ session.boot.machine.size
  -- the pool has room
  pub room : HasRoom has_room session.boot.machine.pool.start session.boot.machine.pool.end

-- a boot that was started goes on in memory of these bytes, where these addresses have room
pub record GoesOnInMemory (session : SessionFacts) (bytes : List ℕ) (has_room : ℕ → Type 0)
    : Type 0 where
  -- it was started
  pub started : session.phase ≢ not_started
  -- memory has the machine's size
  pub size : length bytes ≡ session.boot.machine.size
  -- while an attempt waits, the pool has room
  pub room :
      is_waiting session.phase ≡ true
      → HasRoom has_room session.boot.machine.pool.start session.boot.machine.pool.end

-- an attempt that waited took an event: it waits on, or it ended for good. Memory had the bytes
-- `before`, and has those of `after`
pub record WaitsOnOrEnds (old new : SessionFacts) (before after : List ℕ) (told : Progress)
    : Type 0 where
  -- what is told is how far the boot came
  pub progress :
      told ≡ steps.progress (attempt_number (state_at before old.phase)) (state_at after new.phase)
  -- the attempt waits on
  pub goes_on : told ≡ Waiting → is_waiting new.phase ≡ true
  -- then as many attempts are left
  pub as_many :
      told ≡ Waiting → attempts_left (state_at after new.phase)
      ≡ attempts_left (state_at before old.phase)
  -- else fewer are
  pub fewer :
      told ≢ Waiting → attempts_left (state_at after new.phase)
      < attempts_left (state_at before old.phase)
  -- the boot is not back before its start
  pub started : new.phase ≢ not_started
  -- memory holds what it is to hold where the boot stands
  pub memory : IsMemoryAt old.boot.machine.pool (state_at after new.phase) before after

-- an attempt that waited took one answer of a store, and told how far the boot came
pub record HasTakenAnswer (old new : SessionFacts) (files : List File)
    (given given_after : List HistoryItem) (to_come to_come_after : ℕ) (before after : List ℕ)
    (told : Progress) : Type 0 where
  -- it is the same boot
  pub boot : new.boot ≡ old.boot
  -- the history leads from where the attempt stood to where it stands
  pub heard :
      HistoryLeadsOn old.boot files given given_after (all_asked (state_at before old.phase))
      (run_state_after old.boot (state_at before old.phase) (state_at after new.phase))
  -- it waits on, or ended
  pub taken : WaitsOnOrEnds old new before after told
  -- while it waits on, fewer answers are to come
  pub left : told ≡ Waiting → to_come_after < to_come

-- the same; or memory ran out as the store was to answer, and nothing changed
abbrev pub TakesAnswer :
    {E : Type 0} → (old new : SessionFacts) → List File → (given given_after : List HistoryItem)
    → (to_come to_come_after : ℕ) → (before after : List ℕ) → Result Progress E → Type 0
TakesAnswer old new files given given_after to_come to_come_after before after (Ok told) =
    HasTakenAnswer old new files given given_after to_come to_come_after before after told
TakesAnswer old new files given given_after to_come to_come_after before after (Err why) =
    (after ≡ before) × (given_after ≡ given)

-- the answers to an attempt that asked for all its pieces led to its end
pub record EndsAttempt (old new : SessionFacts) (files : List File)
    (given given_after : List HistoryItem) (before after : List ℕ) : Type 0 where
  -- it is the same boot
  pub boot : new.boot ≡ old.boot
  -- the history leads from the attempt to what follows it
  pub heard :
      HistoryLeadsOn old.boot files given given_after (all_asked (state_at before old.phase))
      (run_state_of old.boot (state_at after new.phase))
  -- fewer attempts are left
  pub fewer :
      attempts_left (state_at after new.phase) < attempts_left (state_at before old.phase)
  -- the boot is not back before its start
  pub started : new.phase ≢ not_started
  -- memory holds what it is to hold where the boot stands
  pub memory : IsMemoryAt old.boot.machine.pool (state_at after new.phase) before after

-- the submissions and answers of all attempts led to the end of the boot
pub record EndsAllAttempts (old new : SessionFacts) (files : List File)
    (given given_after : List HistoryItem) (before after : List ℕ) : Type 0 where
  -- it is the same boot
  pub boot : new.boot ≡ old.boot
  -- the history leads from where the boot stood to its end
  pub heard :
      HistoryLeadsOn old.boot files given given_after
      (run_state_of old.boot (state_at before old.phase))
      (run_state_of old.boot (state_at after new.phase))
  -- no attempt waits
  pub ended : is_waiting new.phase ≡ false
  -- the boot is not back before its start
  pub started : new.phase ≢ not_started
  -- memory holds what it is to hold where the boot stands, if it did before
  pub memory :
      (first : List ℕ) → IsMemoryAt old.boot.machine.pool (state_at before old.phase) first before
      → IsMemoryAt old.boot.machine.pool (state_at after new.phase) first after

-- memory ran out while an attempt ran, to which the history leads from a state
pub record StopsInAttempt (facts : BootFacts) (files : List File)
    (given given_after : List HistoryItem) (start : RunState) : Type 0 where
  -- where the boot stood then
  pub stopped : RunState
  -- the history leads there
  pub heard : HistoryLeadsOn facts files given given_after start stopped
  -- an attempt ran
  pub running : is_running stopped.state ≡ true

-- a boot of this menu over a store of these files has ended, with this session
pub record HasRun (machine : MachineFacts) (menu : MenuFacts) (session : SessionFacts)
    (files : List File) (given given_after : List HistoryItem) (before after : List ℕ)
    : Type 0 where
  -- what the store was asked and answered led to its end
  pub run :
      IsRun (boot_facts machine menu (map size_of files)) files given given_after
      (state_at after session.phase)
  -- its machine is this one
  pub on_machine : session.boot.machine ≡ machine
  -- it was started
  pub started : session.phase ≢ not_started
  -- no attempt waits
  pub ended : is_waiting session.phase ≡ false
  -- memory holds what it is to hold at the end
  pub memory : IsMemoryAt machine.pool (state_at after session.phase) before after

-- ---- the same, or memory ran out

-- the attempt ended, or no byte outside the pool changed
abbrev pub EndsOrStops :
    {T E : Type 0} → (old new : SessionFacts) → List File
    → (given given_after : List HistoryItem) → (before after : List ℕ) → Result T E → Type 0
EndsOrStops old new files given given_after before after (Ok done) =
    EndsAttempt old new files given given_after before after
EndsOrStops old new files given given_after before after (Err why) =
    StopsInAttempt old.boot files given given_after (all_asked (state_at before old.phase))
    × IsSameOutside old.boot.machine.pool before after

-- all attempts ended, or no byte outside the pool changed, if none had before
abbrev pub EndsAllOrStops :
    {T E : Type 0} → (old new : SessionFacts) → List File
    → (given given_after : List HistoryItem) → (before after : List ℕ) → Result T E → Type 0
EndsAllOrStops old new files given given_after before after (Ok done) =
    EndsAllAttempts old new files given given_after before after
EndsAllOrStops old new files given given_after before after (Err why) =
    StopsInAttempt old.boot files given given_after
    (run_state_of old.boot (state_at before old.phase))
    × ((first : List ℕ) → IsMemoryAt old.boot.machine.pool (state_at before old.phase) first before
    → IsSameOutside old.boot.machine.pool first after)

-- a boot of this menu has ended, with this session, or no byte outside the pool changed
abbrev pub RunsOrStops :
    {E : Type 0} → MachineFacts → MenuFacts → List File → (given given_after : List HistoryItem)
    → (before after : List ℕ) → Result SessionFacts E → Type 0
RunsOrStops machine menu files given given_after before after (Ok session) =
    HasRun machine menu session files given given_after before after
RunsOrStops machine menu files given given_after before after (Err why) =
    IsRun (boot_facts machine menu (map size_of files)) files given given_after out_of_memory
    × IsSameOutside machine.pool before after
