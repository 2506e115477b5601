-- What an attempt that waits hears of an answer.
use Rattle.std.proofs.Common.{◌≡◌, ◌≢◌, ◌↔◌, ℕ, Bool, true, List, [], ◌∷◌, ◌++◌, length, Some, refl}
use Rattle.std.proofs.Common.{sym}
use Rattle.std.proofs.Common.{subst, ◌∙◌}
use Rattle.std.specs.declared.ops.Range.{Range}
use Rattle.bl_stage.specs.Ranges.{IsSameOutside}
use Rattle.bl_stage.specs.PieceStates.{piece_states}
use Rattle.bl_stage.specs.Files.{File}
use Rattle.bl_store.specs.declared.ticket.Ticket.{Ticket}
use Rattle.bl_session.specs.declared.session.outcome.Progress.{Progress}
use Rattle.bl_session.specs.declared.session.outcome.Progress.TheVariants.{Waiting}
use Rattle.bl_session.specs.session.BootSteps.{BootFacts, State}
use Rattle.bl_store.specs.Events.{EventFacts, piece, fault}
use Rattle.bl_session.specs.session.BootSteps.{StepsToOrFails}
use Rattle.bl_session.specs.session.BootSteps.{attempt_number, is_running, progress}
use Rattle.bl_store.specs.History.{HistoryItem, came, failed, nothing, file_under}
use Rattle.bl_store.specs.History.{IsPieceOf, IsItemOfAnswer}
use Rattle.bl_store.specs.Stores.{event_of}
use Rattle.bl_store.specs.declared.store.Completion.{Completion}
use Rattle.bl_store.specs.declared.store.Completion.TheVariants.{Piece, Fault}
use Rattle.bl_session.specs.session.Submissions.{attempt_submissions, new_submissions}
use Rattle.bl_session.specs.session.BootMemory.{IsMemoryAt}
use Rattle.bl_session.specs.session.Phases.{PhaseFacts, not_started, waits, hands_over, has_none}
use Rattle.bl_session.specs.session.Phases.{lacks_memory, state_at, is_waiting}
use Rattle.bl_session.specs.runs.Run.{RunState, run_state_of, IsAnswer, IsEventOf}
use Rattle.bl_session.specs.internal.runs.RunParts.{HistoryLeadsOn, all_asked, run_state_after}
use Rattle.bl_session.specs.internal.session.Submitted.{first_awaited_ticket}
use Rattle.bl_session.proofs.session_lemmas.NextLemmas.{lost_ends}
use Rattle.bl_session.proofs.run_lemmas.TurnLemmas.{heard_on, owed_same, owed_next}

-- ---- an answer is an event

event_piece : (files : List File) (given : List HistoryItem) (phase : PhaseFacts)
    (before : List ℕ)
    (ticket : Ticket) (bytes : List ℕ) (item : HistoryItem) → is_waiting phase ≡ true
    → (genuine : Bool) × (item ≡ came ticket (length bytes) genuine)
    × ((genuine ≡ true) ↔ IsPieceOf files (file_under given ticket) ticket.piece bytes)
    → IsEventOf files given (state_at before phase) item (piece ticket bytes)
event_piece files given (waits entry rest earlier stage) before ticket bytes item w is =
    subst (λ (i : HistoryItem). IsAnswer files given earlier (piece_states before stage) i
    (piece ticket bytes))
    (sym is.1) (bytes, refl, refl, is.2)
event_piece files given not_started before ticket bytes item w is = absurd cc
event_piece files given (hands_over n refusals handoff) before ticket bytes item w is = absurd cc
event_piece files given (has_none refusals) before ticket bytes item w is = absurd cc
event_piece files given lacks_memory before ticket bytes item w is = absurd cc

event_fault : (files : List File) (given : List HistoryItem) (phase : PhaseFacts)
    (before : List ℕ)
    (ticket : Ticket) (item : HistoryItem) → is_waiting phase ≡ true → item ≡ failed ticket
    → IsEventOf files given (state_at before phase) item (fault ticket)
event_fault files given (waits entry rest earlier stage) before ticket item w is =
    subst (λ (i : HistoryItem). IsAnswer files given earlier (piece_states before stage) i
    (fault ticket))
    (sym is) refl
event_fault files given not_started before ticket item w is = absurd cc
event_fault files given (hands_over n refusals handoff) before ticket item w is = absurd cc
event_fault files given (has_none refusals) before ticket item w is = absurd cc
event_fault files given lacks_memory before ticket item w is = absurd cc

pub event_lost : (files : List File) (given : List HistoryItem) (phase : PhaseFacts)
    (before : List ℕ)
    (ticket : Ticket) (item : HistoryItem) → is_waiting phase ≡ true → item ≡ nothing
    → first_awaited_ticket (state_at before phase) ≡ Some ticket
    → IsEventOf files given (state_at before phase) item (fault ticket)
event_lost files given (waits entry rest earlier stage) before ticket item w is first =
    subst (λ (i : HistoryItem). IsAnswer files given earlier (piece_states before stage) i
    (fault ticket))
    (sym is) (ticket, first, refl)
event_lost files given not_started before ticket item w is first = absurd cc
event_lost files given (hands_over n refusals handoff) before ticket item w is first = absurd cc
event_lost files given (has_none refusals) before ticket item w is first = absurd cc
event_lost files given lacks_memory before ticket item w is first = absurd cc

pub event_answered : {A : Type 0} (files : List File) (given : List HistoryItem)
    (phase : PhaseFacts) (before : List ℕ) (completion : Completion A) (item : HistoryItem)
    → is_waiting phase ≡ true → IsItemOfAnswer files given (Some completion) item
    → IsEventOf files given (state_at before phase) item (event_of completion)
event_answered files given phase before (Piece ticket bytes) item w is =
    event_piece files given phase before ticket bytes.items item w is
event_answered files given phase before (Fault ticket) item w is =
    event_fault files given phase before ticket item w is

-- it is the next event
pub heard_answer : (facts : BootFacts) (files : List File) (given given_after : List HistoryItem)
    (old new : State) (item : HistoryItem) (event : EventFacts)
    → IsEventOf files given old item event → given_after ≡ given ++ item ∷ []
    → StepsToOrFails facts old event new
    → HistoryLeadsOn facts files given given_after (all_asked old) (run_state_after facts old new)
heard_answer facts files given given_after old new item event is more step = record {
  gained = item ∷ [];
  given = more;
  leads = (run_state_after facts old new, (event, is, step, refl), refl);
}

-- the attempt that lost a piece has ended
pub lost : (facts : BootFacts) (old new : PhaseFacts) (before after : List ℕ) (ticket : Ticket)
    (p : Progress) → is_waiting old ≡ true → first_awaited_ticket (state_at before old)
    ≡ Some ticket
    → StepsToOrFails facts (state_at before old) (fault ticket) (state_at after new)
    → p ≡ progress (attempt_number (state_at before old)) (state_at after new) → p ≢ Waiting
lost facts (waits entry rest earlier stage) new before after ticket p w first step told = λ e.
    lost_ends facts entry rest earlier (piece_states before stage) ticket (state_at after new) first
    step
    (sym told ∙ e)
lost facts not_started new before after ticket p w first step told = absurd cc
lost facts (hands_over n refusals handoff) new before after ticket p w first step told = absurd cc
lost facts (has_none refusals) new before after ticket p w first step told = absurd cc
lost facts lacks_memory new before after ticket p w first step told = absurd cc

-- ---- while an attempt waits

pub running_waiting : (bytes : List ℕ) (phase : PhaseFacts) → is_waiting phase ≡ true
    → is_running (state_at bytes phase) ≡ true
running_waiting bytes (waits entry rest earlier stage) w = refl
running_waiting bytes not_started w = absurd cc
running_waiting bytes (hands_over n refusals handoff) w = absurd cc
running_waiting bytes (has_none refusals) w = absurd cc
running_waiting bytes lacks_memory w = absurd cc

pub waiting_memory : (pool : Range ℕ) (phase : PhaseFacts) (bytes old new : List ℕ)
    → is_waiting phase ≡ true → IsMemoryAt pool (state_at bytes phase) old new
    → IsSameOutside pool old new
waiting_memory pool (waits entry rest earlier stage) bytes old new w memory = memory
waiting_memory pool not_started bytes old new w memory = absurd cc
waiting_memory pool (hands_over n refusals handoff) bytes old new w memory = absurd cc
waiting_memory pool (has_none refusals) bytes old new w memory = absurd cc
waiting_memory pool lacks_memory bytes old new w memory = absurd cc

-- ---- one answer more

pub heard_more : (facts now : BootFacts) (files those : List File)
    (first mid last : List HistoryItem)
    (start : RunState) (old new : State) → now ≡ facts → those ≡ files
    → HistoryLeadsOn facts files first mid start (all_asked old)
    → HistoryLeadsOn now those mid last (all_asked old)
    (run_state_after now old new)
    → HistoryLeadsOn facts files first last start
    (run_state_after facts old new)
heard_more facts now files those first mid last start old new e f so_far more =
    heard_on facts files first mid last start (all_asked old)
    (run_state_after facts old new) so_far
    (subst
    (λ (b : BootFacts).
    HistoryLeadsOn b files mid last (all_asked old)
    (run_state_after b old new)) e
    (subst
    (λ (fs : List File).
    HistoryLeadsOn now fs mid last (all_asked old)
    (run_state_after now old new)) f more))

owing : (facts : BootFacts) (files : List File) (first last : List HistoryItem) (start : RunState)
    (new : State) (a b : List HistoryItem) → a ≡ b
    → HistoryLeadsOn facts files first last start (record { state = new; owed = a })
    → HistoryLeadsOn facts files first last start (record { state = new; owed = b })
owing facts files first last start new a b e heard =
    subst
    (λ (l : List HistoryItem). HistoryLeadsOn facts files first last start
    (record { state = new; owed = l }))
    e heard

-- after which the attempt waits
pub heard_waiting : (facts : BootFacts) (files : List File) (first last : List HistoryItem)
    (start : RunState)
    (old new : State) (p : Progress) → p ≡ progress (attempt_number old) new → p ≡ Waiting
    → HistoryLeadsOn facts files first last start
    (run_state_after facts old new)
    → HistoryLeadsOn facts files first last start (all_asked new)
heard_waiting facts files first last start old new p told is heard =
    owing facts files first last start new (new_submissions facts old new) []
    (owed_same facts old new (sym told ∙ is)) heard

-- after which it has ended
pub heard_ended : (facts : BootFacts) (files : List File) (first last : List HistoryItem)
    (start : RunState)
    (old new : State) (p : Progress) → p ≡ progress (attempt_number old) new → p ≢ Waiting
    → HistoryLeadsOn facts files first last start
    (run_state_after facts old new)
    → HistoryLeadsOn facts files first last start (run_state_of facts new)
heard_ended facts files first last start old new p told is heard =
    owing facts files first last start new (new_submissions facts old new)
    (attempt_submissions facts new)
    (owed_next facts old new (λ e. is (told ∙ e))) heard
