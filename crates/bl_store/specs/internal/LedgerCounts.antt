-- What a `Ledger` keeps of the submissions that are still to be answered, and of its history.
use Rattle.std.specs.Prelude.{◌≡◌, ℕ, ◌+◌, ◌≤◌, List, [], ◌∷◌, Some, if◌then◌else◌}
use Rattle.bl_stage.specs.Files.{File}
use Rattle.bl_store.specs.declared.ticket.Ticket.{Ticket}
use Rattle.bl_store.specs.declared.submission.Submission.{Submission}
use Rattle.bl_store.specs.History.{HistoryItem, is_same, file_under}
use Rattle.bl_store.specs.Faithful.{IsFaithful, times_asked, times_answered}

-- how many of these submissions have a ticket
abbrev pub count_of : List Submission → Ticket → ℕ
count_of [] ticket = 0
count_of (submission ∷ submissions) ticket =
    (if is_same submission.ticket ticket then 1 else 0) + count_of submissions ticket

-- it was asked for; if its ticket was asked for once, under that ticket
abbrev pub WasAsked : List HistoryItem → Submission → Type 0
WasAsked given submission =
    (1 ≤ times_asked given submission.ticket)
    × (times_asked given submission.ticket ≡ 1
    → file_under given submission.ticket ≡ Some submission.file)

abbrev pub AreAskedFor : List HistoryItem → List Submission → Type 0
AreAskedFor given [] = Unit {0}
AreAskedFor given (submission ∷ submissions) =
    WasAsked given submission × AreAskedFor given submissions

pub record IsLedgerKept (files : List File) (pending : List Submission) (given : List HistoryItem)
    : Type 0 where
  pub faithful : IsFaithful files given
  pub counts :
      (ticket : Ticket) → times_answered given ticket + count_of pending ticket
      ≡ times_asked given ticket
  pub asked_for : AreAskedFor given pending
