-- What a session keeps of its phase, and of the stage of an attempt that waits. Own.
use Rattle.std.specs.Prelude.{◌≡◌, ℕ, ◌<◌, ◌≤◌, List, length, All, Option, None, Some}
use Rattle.std.specs.Prelude.{map, slice_index_or}
use Rattle.bl_map.specs.MachineFacts.{MachineFacts}
use Rattle.bl_load.specs.declared.refusal.PrepFault.{PrepFault}
use Rattle.bl_load.specs.declared.refusal.PrepFault.TheVariants as prep_fault
use Rattle.bl_stage.specs.Staged.{Staging, AllCame, AreStaged, empty_stage}
use Rattle.bl_stage.specs.Files.{file_limit}
use Rattle.bl_session.specs.declared.session.phase.BootContext.{BootContext}
use Rattle.bl_session.specs.declared.session.phase.Running.{Running}
use Rattle.bl_session.specs.declared.session.phase.Phase.{Phase}
use Rattle.bl_session.specs.declared.session.phase.Phase.TheVariants.{Unstarted, Waits, HandedOver}
use Rattle.bl_session.specs.declared.session.phase.Phase.TheVariants.{Failed}
use Rattle.bl_session.specs.attempt.AttemptResult.{file_refusal, size_refusal, known_lengths}
use Rattle.bl_load.specs.declared.entry.Entry.{Entry}
use Rattle.bl_session.specs.menu.Menu.{MenuFacts, entry_at, files_of}
use Rattle.bl_session.specs.session.BootSteps.{BootFacts, State}
use Rattle.bl_session.specs.internal.attempt.Cursors.{NoneMissingBelow}
use Rattle.bl_session.specs.session.Phases.{state_at, running_facts, phase_facts, boot_facts}
use Rattle.bl_session.specs.session.Phases.{LiesWithin}

abbrev pub running_state : {A : Type 0} → (attempts bytes : List ℕ) → Running A → State
running_state attempts bytes r = state_at bytes (running_facts attempts r)

abbrev pub state_of : {A : Type 0} → (attempts bytes : List ℕ) → Phase A → State
state_of attempts bytes phase = state_at bytes (phase_facts attempts phase)

-- the sizes of the files of these indices
abbrev pub sizes_in : List (Option ℕ) → List ℕ → List (Option ℕ)
sizes_in sizes files = map (λ file. slice_index_or sizes file None) files

-- the sizes of the files of an entry, by those of the menu's files
abbrev pub sizes_for : {A : Type 0} → List (Option ℕ) → Entry A → List (Option ℕ)
sizes_for sizes entry = sizes_in sizes (files_of entry)

-- files of these sizes are there, none is too long, and these are their lengths
pub record AreLengths (sizes : List (Option ℕ)) (lengths : List ℕ) : Type 0 where
  pub taken : file_refusal 0 sizes ≡ None
  pub known : lengths ≡ known_lengths sizes

-- why files of these sizes are not taken, unless memory ran out
abbrev pub IsFileRefusal : List (Option ℕ) → PrepFault → Type 0
IsFileRefusal sizes (prep_fault.Refused refusal) = file_refusal 0 sizes ≡ Some refusal
IsFileRefusal sizes prep_fault.NoMemory = Unit {0}

-- why an attempt with files of these sizes does not begin, unless memory ran out
abbrev pub IsSizeFault : MachineFacts → List (Option ℕ) → PrepFault → Type 0
IsSizeFault facts sizes (prep_fault.Refused refusal) = size_refusal facts sizes ≡ Some refusal
IsSizeFault facts sizes prep_fault.NoMemory = Unit {0}

-- a stage to which no piece came, for files of these sizes
abbrev pub IsFreshStage : MachineFacts → List (Option ℕ) → Staging → Type 0
IsFreshStage facts sizes stage =
    (frames : List ℕ) × (stage ≡ empty_stage facts.pool (known_lengths sizes) frames)

-- each file has at most the most bytes
pub record HasSmallFiles (stage : Staging) : Type 0 where
  pub all : All (λ size. size ≤ file_limit) stage.sizes

-- a stage was begun for files of these sizes, which don't refuse it
pub record IsBegunStage (facts : MachineFacts) (sizes : List (Option ℕ)) (stage : Staging)
    : Type 0 where
  pub fresh : IsFreshStage facts sizes stage
  pub fits : size_refusal facts sizes ≡ None
  pub staged : AreStaged stage
  pub small : HasSmallFiles stage

abbrev pub facts_of_boot : {A : Type 0} → BootContext A → BootFacts
facts_of_boot boot = boot_facts boot.machine.now boot.menu.now boot.sizes.now

-- the states of its phases
abbrev pub state_in : {A : Type 0} → BootContext A → (bytes : List ℕ) → Phase A → State
state_in boot bytes phase = state_of boot.menu.now.attempts bytes phase

abbrev pub running_in : {A : Type 0} → BootContext A → (bytes : List ℕ) → Running A → State
running_in boot bytes r = running_state boot.menu.now.attempts bytes r

-- where an attempt stands that runs on, or the phase that ended it
abbrev pub phase_by : {A : Type 0} → Running A → Option (Phase A) → Phase A
phase_by r None = Waits r
phase_by r (Some phase) = phase

-- a piece did not come
pub record LacksPiece (stage : Staging) : Type 0 where
  pub lacks : ¬ AllCame stage

-- what a session keeps of an attempt
pub record IsWaiting {A : Type 0} (machine : MachineFacts) (menu : MenuFacts)
    (r : Running A) : Type 0 where
  pub entry : r.entry < length menu.entries
  pub pool : r.stage.pool ≡ machine.pool
  pub files : length r.stage.sizes ≡ length (entry_at menu r.entry).files
  pub small : HasSmallFiles r.stage
  pub below : NoneMissingBelow r.stage r.cursor.file r.cursor.piece
  pub number : length r.earlier.items < r.next
  pub next : r.next ≤ length menu.attempts

-- an attempt waits only while a piece is missing
abbrev pub IsPhaseKept : {A : Type 0} → MachineFacts → MenuFacts → Phase A → Type 0
IsPhaseKept machine menu Unstarted = Unit {0}
IsPhaseKept machine menu (Waits r) = IsWaiting machine menu r × LacksPiece r.stage
IsPhaseKept machine menu (HandedOver outcome) = LiesWithin machine.size outcome.handoff
IsPhaseKept machine menu (Failed why) = Unit {0}
