-- What a ledger keeps of a store, what it answers, and what an answer leaves. Own.
use Rattle.std.specs.Prelude.{ℕ, List, [], ◌∷◌, ◌++◌, slice_get, Option, None, Some, option_map}
use Rattle.bl_stage.specs.Files.{File, missing, whole}
use Rattle.bl_store.specs.declared.submission.Submission.{Submission}
use Rattle.bl_store.specs.Events.{EventFacts}
use Rattle.bl_store.specs.History.{HistoryItem, submitted}
use Rattle.bl_store.specs.Stores.{answer_to, item_of_answer, without_index}

-- a file in a slice, or none
abbrev pub sliced_file : Option (List ℕ) → File
sliced_file None = missing
sliced_file (Some bytes) = whole bytes

-- a ledger: the files of its store, the submissions that are still to be answered, and the history
pub record LedgerFacts : Type 0 where
  pub files : List File
  pub pending : List Submission
  pub given : List HistoryItem

-- the answer to the submission at a place
abbrev pub pending_answer : LedgerFacts → ℕ → Option EventFacts
pending_answer ledger place = option_map (answer_to ledger.files) (slice_get ledger.pending place)

-- after a submission it is the last that is to be answered; after the answer to the submission at a
-- place that one is left out
abbrev pub ledger_asked : LedgerFacts → Submission → LedgerFacts
ledger_asked ledger submission = record {
  files = ledger.files;
  pending = ledger.pending ++ submission ∷ [];
  given = ledger.given ++ submitted submission.file submission.ticket ∷ [];
}

abbrev pub ledger_answered : LedgerFacts → ℕ → LedgerFacts
ledger_answered ledger place = record {
  files = ledger.files;
  pending = without_index ledger.pending place;
  given =
      ledger.given ++ item_of_answer ledger.files ledger.given (pending_answer ledger place) ∷ [];
}
