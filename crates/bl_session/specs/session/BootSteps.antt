-- Where a boot stands, and what one event does. Own.
use Rattle.std.specs.Prelude.{◌≡◌, ◌⊎◌, ℕ, ◌==◌, ◌&&◌, Bool, true, false, MatchBool, if◌then◌else◌}
use Rattle.std.specs.Prelude.{List, [], ◌∷◌, ◌++◌, length, map, slice_index_or, Option, None, Some}
use Rattle.bl_map.specs.MachineFacts.{MachineFacts}
use Rattle.bl_load.specs.declared.refusal.Refusal.{Refusal}
use Rattle.bl_load.specs.declared.refusal.Refusal.TheVariants.{FileFault}
use Rattle.bl_load.specs.Handover.{Handover}
use Rattle.bl_load.specs.declared.refused_entry.RefusedEntry.{RefusedEntry}
use Rattle.bl_stage.specs.PieceStates.{PieceState, came_bytes}
use Rattle.bl_store.specs.Events.{EventFacts, piece, fault}
use Rattle.bl_session.specs.declared.session.outcome.Progress.{Progress}
use Rattle.bl_session.specs.declared.session.outcome.Progress.TheVariants.{Waiting, Next, Done}
use Rattle.bl_session.specs.declared.session.outcome.Progress.TheVariants.{Failed}
use Rattle.bl_session.specs.attempt.AttemptResult.{AttemptResult, handed, refused}
use Rattle.bl_session.specs.attempt.AttemptResult.{HasWholeFilesResult}
use Rattle.bl_session.specs.attempt.AttemptResult.{size_refusal}
use Rattle.bl_session.specs.attempt.AttemptResult.{known_lengths}
use Rattle.bl_session.specs.menu.Menu.{MenuFacts, entry_at, value_with}
use Rattle.bl_session.specs.attempt.AwaitedPieces.{is_awaited, awaits, piece_state_of, with_piece}
use Rattle.bl_session.specs.attempt.AwaitedPieces.{are_whole}
use Rattle.bl_session.specs.attempt.AwaitedPieces.{waiting_files}

-- what does not change in a boot: the machine, the menu, and the size of each file of the menu,
-- None if it is missing
pub record BootFacts : Type 0 where
  pub machine : MachineFacts
  pub menu : MenuFacts
  pub sizes : List (Option ℕ)

-- where a boot stands. While an attempt runs: its entry, the entries that are left, the refusals so
-- far (how many they are is the attempt's number), and what came of each of its files
pub data State : Type 0 where
  unstarted : State
  running :
      (entry : ℕ) → (rest : List ℕ) → (earlier : List RefusedEntry)
      → (files : List (List PieceState))
      → State
  handed_over : (entry : ℕ) → (earlier : List RefusedEntry) → Handover → State
  none_left : (earlier : List RefusedEntry) → State
  out_of_memory : State

-- what is so while an attempt runs, by its entry, the entries that are left, the refusals so far
-- and what came of its files; else the other
abbrev pub on_running {ℓ} : {X : Type ℓ} → State → (other : X)
    → (ℕ → List ℕ → List RefusedEntry → List (List PieceState) → X) → X
on_running unstarted other runs = other
on_running (running entry rest earlier files) other runs = runs entry rest earlier files
on_running (handed_over entry earlier handover) other runs = other
on_running (none_left earlier) other runs = other
on_running out_of_memory other runs = other

-- ---- an entry

-- the sizes of its files
abbrev pub sizes_of : BootFacts → ℕ → List (Option ℕ)
sizes_of facts entry =
    map (λ file. slice_index_or facts.sizes file None) (entry_at facts.menu entry).files

-- its pieces, of which none came
abbrev pub fresh : BootFacts → ℕ → List (List PieceState)
fresh facts entry = waiting_files (known_lengths (sizes_of facts entry))

-- the result of its attempt once its files hold these texts
abbrev pub TextsHaveResult : BootFacts → ℕ → List (List ℕ) → AttemptResult → Type 0
TextsHaveResult facts entry texts =
    HasWholeFilesResult facts.machine (value_with (entry_at facts.menu entry) texts)

-- ---- attempts, one after the other

-- the rest of a boot: with these refusals so far, it leads to this state
abbrev pub RestOfBoot : Type 1
RestOfBoot = List RefusedEntry → State → Type 0

-- the attempt of an entry has this result: a handover ends the boot; a refusal is added to those so
-- far, and the rest of the boot follows
abbrev pub AfterAttempt : RestOfBoot → ℕ → List RefusedEntry → AttemptResult → State → Type 0
AfterAttempt next entry earlier (handed handover) state = state ≡ handed_over entry earlier handover
AfterAttempt next entry earlier (refused refusal) state =
    next (earlier ++ record { entry = entry; refusal = refusal } ∷ []) state

-- the attempt has these pieces: it waits for what is missing; if each piece came, it ends
abbrev pub Continues :
    BootFacts → RestOfBoot → ℕ → List ℕ → List RefusedEntry → List (List PieceState) → State
    → Type 0
Continues facts next entry rest earlier files state =
    MatchBool (are_whole files)
    ((result : AttemptResult) × TextsHaveResult facts entry (map came_bytes files) result
    × AfterAttempt next entry earlier result state)
    (state ≡ running entry rest earlier files)

-- the attempt begins, if the sizes of its files don't refuse it
abbrev pub BeginsUnless :
    BootFacts → RestOfBoot → ℕ → List ℕ → List RefusedEntry → Option Refusal → State → Type 0
BeginsUnless facts next entry rest earlier (Some refusal) state =
    AfterAttempt next entry earlier (refused refusal) state
BeginsUnless facts next entry rest earlier None state =
    Continues facts next entry rest earlier (fresh facts entry) state

-- the first of these attempts begins
abbrev pub Begins : BootFacts → List ℕ → List RefusedEntry → State → Type 0
Begins facts [] earlier state = state ≡ none_left earlier
Begins facts (entry ∷ rest) earlier state =
    BeginsUnless facts (Begins facts rest) entry rest earlier
    (size_refusal facts.machine (sizes_of facts entry)) state

-- ---- one event

-- the event is of the attempt that runs, which awaits the piece that it names, and a piece has the
-- right length
abbrev pub is_wanted : List RefusedEntry → List (List PieceState) → EventFacts → Bool
is_wanted earlier files (piece ticket bytes) =
    (ticket.attempt == length earlier)
    && awaits (piece_state_of files ticket.file ticket.piece) (length bytes)
is_wanted earlier files (fault ticket) =
    (ticket.attempt == length earlier) && is_awaited (piece_state_of files ticket.file ticket.piece)

-- what a wanted event does: a piece is stored, a fault refuses the entry
abbrev pub TakesEvent :
    BootFacts → ℕ → List ℕ → List RefusedEntry → List (List PieceState) → EventFacts → State
    → Type 0
TakesEvent facts entry rest earlier files (piece ticket bytes) state =
    Continues facts (Begins facts rest) entry rest earlier
    (with_piece files ticket.file ticket.piece bytes) state
TakesEvent facts entry rest earlier files (fault ticket) state =
    AfterAttempt (Begins facts rest) entry earlier (refused (FileFault ticket.file)) state

-- an event that is not wanted changes nothing
abbrev pub StepsTo : BootFacts → State → EventFacts → State → Type 0
StepsTo facts old event new =
    on_running old (new ≡ old)
    (λ entry rest earlier files. MatchBool (is_wanted earlier files event)
    (TakesEvent facts entry rest earlier files event new) (new ≡ old))

-- the event is one that the attempt which runs waits for
abbrev pub is_taken : State → EventFacts → Bool
is_taken state event =
    on_running state false (λ entry rest earlier files. is_wanted earlier files event)

-- an attempt runs
abbrev pub is_running : State → Bool
is_running state = on_running state false (λ entry rest earlier files. true)

-- the event is wanted and ends the attempt: its last piece, or a fault
abbrev pub is_wanted_last : List RefusedEntry → List (List PieceState) → EventFacts → Bool
is_wanted_last earlier files (piece ticket bytes) =
    is_wanted earlier files (piece ticket bytes)
    && are_whole (with_piece files ticket.file ticket.piece bytes)
is_wanted_last earlier files (fault ticket) = is_wanted earlier files (fault ticket)

-- the event ends the attempt that runs
abbrev pub ends_attempt : State → EventFacts → Bool
ends_attempt state event =
    on_running state false (λ entry rest earlier files. is_wanted_last earlier files event)

-- one step, or want of memory, which only an event meets that ends an attempt
abbrev pub StepsToOrFails : BootFacts → State → EventFacts → State → Type 0
StepsToOrFails facts old event new =
    StepsTo facts old event new ⊎ ((new ≡ out_of_memory) × (ends_attempt old event ≡ true))

-- the start acts once
abbrev pub Starts : BootFacts → State → State → Type 0
Starts facts unstarted new = Begins facts facts.menu.attempts [] new
Starts facts (running entry rest earlier files) new = new ≡ running entry rest earlier files
Starts facts (handed_over entry earlier handover) new = new ≡ handed_over entry earlier handover
Starts facts (none_left earlier) new = new ≡ none_left earlier
Starts facts out_of_memory new = new ≡ out_of_memory

-- the start, or want of memory, which only the first start meets
abbrev pub StartsOrFails : BootFacts → State → State → Type 0
StartsOrFails facts old new = Starts facts old new ⊎ ((new ≡ out_of_memory) × (old ≡ unstarted))

-- the number of the attempt that runs
abbrev pub attempt_number : State → ℕ
attempt_number unstarted = 0
attempt_number (running entry rest earlier files) = length earlier
attempt_number (handed_over entry earlier handover) = length earlier
attempt_number (none_left earlier) = length earlier
attempt_number out_of_memory = 0

-- what a call answers that leads from the attempt of this number to that state
abbrev pub progress : ℕ → State → Progress
progress attempt unstarted = Waiting
progress attempt (running entry rest earlier files) =
    if length earlier == attempt then Waiting else Next (length earlier)
progress attempt (handed_over entry earlier handover) = Done
progress attempt (none_left earlier) = Failed
progress attempt out_of_memory = Failed

-- a schedule: one event after the other
abbrev pub LeadsTo : BootFacts → State → List EventFacts → State → Type 0
LeadsTo facts old [] new = new ≡ old
LeadsTo facts old (event ∷ events) new =
    (next : State) × StepsTo facts old event next × LeadsTo facts next events new
