-- What a session has asked a store for, and what it awaits first. Own.
use Rattle.std.specs.Prelude.{◌≡◌, List, ◌++◌, length, Option, None, Result, Ok, Err}
use Rattle.bl_store.specs.declared.ticket.Ticket.{Ticket}
use Rattle.bl_store.specs.History.{HistoryItem}
use Rattle.bl_session.specs.attempt.AwaitedTickets.{first_ticket}
use Rattle.bl_session.specs.session.BootSteps.{State, on_running}

-- of these submissions, in order, all but the rest were asked for
pub record AreAskedButRest (attempt_submissions rest old new : List HistoryItem) : Type 0 where
  pub asked : List HistoryItem
  pub all : attempt_submissions ≡ asked ++ rest
  pub given : new ≡ old ++ asked

-- these submissions were asked for, in order; if that ended in an error, all but the rest
abbrev pub AreSubmitted :
    {T E : Type 0} → Result T E → (attempt_submissions old new : List HistoryItem) → Type 0
AreSubmitted (Ok done) attempt_submissions old new = new ≡ old ++ attempt_submissions
AreSubmitted (Err why) attempt_submissions old new =
    (rest : List HistoryItem) × AreAskedButRest attempt_submissions rest old new

-- the ticket of the first piece that the attempt awaits
abbrev pub first_awaited_ticket : State → Option Ticket
first_awaited_ticket state =
    on_running state None (λ entry rest earlier files. first_ticket (length earlier) 0 files)
