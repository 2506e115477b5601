-- A boot over a store: what the store was asked and answered, read from left to right. Own.
use Rattle.std.specs.Prelude.{◌≡◌, ◌⊎◌, ◌↔◌, ℕ, true, List, [], ◌∷◌, ◌++◌, length, Some}
use Rattle.bl_load.specs.declared.refused_entry.RefusedEntry.{RefusedEntry}
use Rattle.bl_stage.specs.PieceStates.{PieceState}
use Rattle.bl_stage.specs.Files.{File}
use Rattle.bl_store.specs.declared.ticket.Ticket.{Ticket}
use Rattle.bl_session.specs.session.BootSteps.{BootFacts, State}
use Rattle.bl_store.specs.Events.{EventFacts, piece, fault}
use Rattle.bl_session.specs.session.BootSteps.{unstarted}
use Rattle.bl_session.specs.session.BootSteps.{out_of_memory, is_running, is_wanted, StartsOrFails}
use Rattle.bl_session.specs.session.BootSteps.{StepsToOrFails}
use Rattle.bl_session.specs.session.BootSteps.{on_running}
use Rattle.bl_session.specs.session.Schedules.{Faults, EventAgreesWithFaults}
use Rattle.bl_store.specs.History.{HistoryItem, submitted, came, failed, nothing}
use Rattle.bl_store.specs.History.{file_under}
use Rattle.bl_store.specs.History.{IsPieceOf}
use Rattle.bl_session.specs.session.Submissions.{attempt_submissions, new_submissions}
use Rattle.bl_session.specs.attempt.AwaitedTickets.{first_ticket}

-- ---- answers as events

-- the event that an answer is, after this history, if the attempt has these pieces: one has as
-- many bytes as were told, and they are its file's exactly if they are marked so; with nothing more
-- to come, it is a fault of the first piece that is awaited
abbrev pub IsAnswer :
    List File → List HistoryItem → List RefusedEntry → List (List PieceState) → HistoryItem
    → EventFacts → Type 0
IsAnswer files given earlier pieces (submitted file ticket) event = ⊥
IsAnswer files given earlier pieces (came ticket count genuine) event =
    (bytes : List ℕ) × (event ≡ piece ticket bytes) × (length bytes ≡ count)
    × ((genuine ≡ true) ↔ IsPieceOf files (file_under given ticket) ticket.piece bytes)
IsAnswer files given earlier pieces (failed ticket) event = event ≡ fault ticket
IsAnswer files given earlier pieces nothing event =
    (ticket : Ticket) × (first_ticket (length earlier) 0 pieces ≡ Some ticket)
    × (event ≡ fault ticket)

-- only an attempt that runs takes answers
abbrev pub IsEventOf : List File → List HistoryItem → State → HistoryItem → EventFacts → Type 0
IsEventOf files given state item event =
    on_running state ⊥
    (λ entry rest earlier pieces. IsAnswer files given earlier pieces item event)

-- where a boot stands, and what it is still to ask for
pub record RunState : Type 0 where
  pub state : State
  pub owed : List HistoryItem

-- one that begins its first attempt
abbrev pub run_state_of : BootFacts → State → RunState
run_state_of facts state = record { state = state; owed = attempt_submissions facts state }

-- one item after this history: the first that is to be asked for; with none it is an answer, the
-- next event
abbrev pub Delivers : BootFacts → List File → List HistoryItem → State → List HistoryItem
    → HistoryItem → RunState
    → Type 0
Delivers facts files given state (first ∷ owed) item new =
    (item ≡ first) × (new ≡ record { state = state; owed = owed })
Delivers facts files given state [] item new =
    (event : EventFacts) × IsEventOf files given state item event
    × StepsToOrFails facts state event new.state
    × (new.owed ≡ new_submissions facts state new.state)

-- these items, after this history, lead from a state of a run to a state; while an attempt runs,
-- memory may run out after the last
abbrev pub ItemsLeadTo :
    BootFacts → List File → List HistoryItem → RunState → List HistoryItem → State → Type 0
ItemsLeadTo facts files given old [] new =
    (new ≡ old.state) ⊎ ((new ≡ out_of_memory) × (is_running old.state ≡ true))
ItemsLeadTo facts files given old (item ∷ items) new =
    (next : RunState) × Delivers facts files given old.state old.owed item next
    × ItemsLeadTo facts files (given ++ item ∷ []) next items new

-- a boot that made its store's history grow so came to this state
pub record IsRun (facts : BootFacts) (files : List File) (old new : List HistoryItem)
    (end : State) : Type 0 where
  pub gained : List HistoryItem
  pub given : new ≡ old ++ gained
  pub begun : State
  pub begins : StartsOrFails facts unstarted begun
  pub reads : ItemsLeadTo facts files old (run_state_of facts begun) gained end

-- ---- genuine histories

-- a piece is marked as its file's
abbrev pub IsMarked : HistoryItem → Type 0
IsMarked (submitted file ticket) = Unit {0}
IsMarked (came ticket count genuine) = genuine ≡ true
IsMarked (failed ticket) = Unit {0}
IsMarked nothing = Unit {0}

-- an event that is wanted is marked, whatever faults come; one that is not may be anything
abbrev pub IsMarkedItem : State → HistoryItem → EventFacts → Type 0
IsMarkedItem state item event =
    on_running state (Unit {0})
    (λ entry rest earlier pieces. is_wanted earlier pieces event ≡ true → IsMarked item)

-- an event that is wanted is marked, and its faults are these; one that is not may be anything
abbrev pub IsGenuineItem : Faults → State → HistoryItem → EventFacts → Type 0
IsGenuineItem faults state item event =
    on_running state (Unit {0})
    (λ entry rest earlier pieces. is_wanted earlier pieces event ≡ true
    → IsMarked item × EventAgreesWithFaults faults earlier pieces event)

-- of these items, after this history, each answer is so where it comes
abbrev pub EachAnswerIs :
    BootFacts → List File → (State → HistoryItem → EventFacts → Type 0) → List HistoryItem
    → RunState → List HistoryItem
    → Type 0
EachAnswerIs facts files IsSo given run_state [] = Unit {0}
EachAnswerIs facts files IsSo given run_state (item ∷ items) =
    ((event : EventFacts) → run_state.owed ≡ [] → IsEventOf files given run_state.state item event
    → IsSo run_state.state item event)
    × ((next : RunState) → Delivers facts files given run_state.state run_state.owed item next
    → EachAnswerIs facts files IsSo (given ++ item ∷ []) next items)

-- of what a history gained in a boot each answer is so where it comes
abbrev pub EachGainedAnswerIs :
    BootFacts → List File → (State → HistoryItem → EventFacts → Type 0)
    → (old new : List HistoryItem) → Type 0
EachGainedAnswerIs facts files IsSo old new =
    (gained : List HistoryItem) (begun : State) → new ≡ old ++ gained
    → StartsOrFails facts unstarted begun
    → EachAnswerIs facts files IsSo old (run_state_of facts begun) gained

-- the pieces that were wanted are their files', whatever faults came
abbrev pub IsMarkedRun : BootFacts → List File → (old new : List HistoryItem) → Type 0
IsMarkedRun facts files old new = EachGainedAnswerIs facts files IsMarkedItem old new

-- the pieces that were wanted are their files', and these faults came
abbrev pub IsGenuineRun : BootFacts → List File → Faults → (old new : List HistoryItem) → Type 0
IsGenuineRun facts files faults old new =
    EachGainedAnswerIs facts files (IsGenuineItem faults) old new
