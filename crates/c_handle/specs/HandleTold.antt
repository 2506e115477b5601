-- What a call through a handle answers in C. Own.
use Rattle.std.specs.Prelude.{◌≡◌, ℕ, Bool, true, false, List, slice_index_or, Option, None, Some}
use Rattle.std.specs.Prelude.{Result, Ok, Err}
use Rattle.bl_session.specs.declared.session.outcome.Progress.{Progress}
use Rattle.bl_session.specs.declared.session.outcome.Progress.TheVariants.{Waiting, Next, Done}
use Rattle.bl_session.specs.declared.session.outcome.Progress.TheVariants.{Failed}
use Rattle.bl_session.specs.declared.attempt.request.Request.{Request}
use Rattle.bl_store.specs.declared.ticket.Ticket.{Ticket}
use Rattle.c_handle.specs.declared.handle_fault.HandleFault.{HandleFault}
use Rattle.c_handle.specs.declared.handle_fault.HandleFault.TheVariants.{NoSession, WrongSize}
use Rattle.c_handle.specs.declared.handle_fault.HandleFault.TheVariants.{BelowBase}
use Rattle.c_handle.specs.declared.records.RequestRecord.{RequestRecord}

-- the number of what `start` and `event` answer
abbrev pub progress_status : Result Progress HandleFault → ℕ
progress_status (Ok Done) = 0
progress_status (Ok Failed) = 5
progress_status (Ok Waiting) = 2
progress_status (Ok (Next attempt)) = 3
progress_status (Err NoSession) = 116
progress_status (Err WrongSize) = 110
progress_status (Err BelowBase) = 117

-- a piece that is awaited, as a record, where these entries are attempted
abbrev pub request_record : List ℕ → Request → RequestRecord
request_record attempts request = record {
  entry = slice_index_or attempts request.ticket.attempt 0;
  attempt = request.ticket.attempt;
  place = request.ticket.file;
  piece = request.ticket.piece;
  length = request.len;
}

-- the ticket of a record
abbrev pub record_ticket : RequestRecord → Ticket
record_ticket request = record {
  attempt = request.attempt;
  file = request.place;
  piece = request.piece;
}

-- a piece that is awaited is told, and that there is one; else the record stays as it was
abbrev pub TellsRequest : List ℕ → Option Request → (told : Bool) → (old new : RequestRecord)
    → Type 0
TellsRequest attempts None told old new = (told ≡ false) × (new ≡ old)
TellsRequest attempts (Some request) told old new =
    (told ≡ true) × (new ≡ request_record attempts request)
