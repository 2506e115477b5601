-- How a `Ledger` keeps the submissions that are still to be answered: neighbouring pieces as one.
use Rattle.std.specs.Prelude.{◌≡◌, ℕ, ◌+◌, ◌<◌, List, [], ◌∷◌, ◌++◌, length, take, drop, map}
use Rattle.std.specs.Prelude.{slice_index_or}
use Rattle.std.specs.List.{flat_map, range_with_len}
use Rattle.bl_store.specs.declared.submission.Submission.{Submission}
use Rattle.bl_store.specs.Stores.{without_index}

-- ---- a run: submissions for one file under one attempt, of one piece after the other

-- the same submission, of another piece
abbrev pub submission_for_piece : Submission → ℕ → Submission
submission_for_piece submission piece = record {
  file = submission.file;
  ticket = record {
    attempt = submission.ticket.attempt;
    file = submission.ticket.file;
    piece = piece;
  };
}

-- so many, from this one on
abbrev pub submissions_from : Submission → ℕ → List Submission
submissions_from first count =
    map (submission_for_piece first) (range_with_len first.ticket.piece count)

-- whether a submission goes on with a run. No run is empty
abbrev pub GoesOn : List Submission → Submission → Type 0
GoesOn [] submission = Unit {0}
GoesOn (first ∷ others) submission =
    submission ≡ submission_for_piece first (first.ticket.piece + length (first ∷ others))

-- ---- a list of runs

-- the submissions of each run in turn
abbrev pub runs_listed : List (List Submission) → List Submission
runs_listed runs = flat_map (λ run. run) runs

-- what has a place among all of them is at this place of the run of this index
abbrev pub IsPlaceInRun : List (List Submission) → ℕ → ℕ → ℕ → Type 0
IsPlaceInRun runs place index at =
    (index < length runs)
    × (at < length (slice_index_or runs index []))
    × (place ≡ length (runs_listed (take index runs)) + at)

-- all of them without the one at this place of the run of this index
abbrev pub listed_without : List (List Submission) → ℕ → ℕ → List Submission
listed_without runs index at =
    runs_listed (take index runs)
    ++ (without_index (slice_index_or runs index []) at ++ runs_listed (drop (index + 1) runs))
