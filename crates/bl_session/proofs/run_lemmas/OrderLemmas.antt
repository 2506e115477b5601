-- What the orders of an attempt ask for: each of its tickets once, under its own file.
use Rattle.std.proofs.Common.{◌≡◌, ℕ, zero, suc, ◌+◌, ◌<◌, ◌≤◌, Bool, true, false, List, [], ◌∷◌}
use Rattle.std.proofs.Common.{length, map, get_or, Option, Some, refl, sym, ap, inl, inr, arith}
use Rattle.std.specs.List.{range_with_len}
use Rattle.std.proofs.lemmas.Bool.{cases_lt}
use Rattle.std.proofs.lemmas.List.{get_or_past}
use Rattle.bl_stage.specs.PieceStates.{PieceState}
use Rattle.bl_store.specs.declared.ticket.Ticket.{Ticket}
use Rattle.bl_store.specs.History.{HistoryItem, submitted, came, failed, is_same}
use Rattle.bl_store.specs.History.{last_submitted_file}
use Rattle.bl_session.specs.attempt.AwaitedTickets.{ticket_of}
use Rattle.bl_session.specs.session.Submissions.{piece_submissions, submissions_for_files}
use Rattle.bl_store.proofs.TicketLemmas.{same_fields, is_same_self, other_ticket}
use Rattle.bl_store.proofs.TicketLemmas.{IsUntouched}
use Rattle.bl_store.proofs.TicketLemmas.{IsAskedOnce, untouched_both, once_first}
use Rattle.bl_store.proofs.TicketLemmas.{once_last}

-- ---- one order

untouched_order : (file : ℕ) (s t : Ticket) (items : List HistoryItem) → is_same s t ≡ false
    → IsUntouched items t → IsUntouched (submitted file s ∷ items) t
untouched_order file s t items e (a, b, f) = (rw e (omega arith), b, λ found. rw e (f found))

once_order : (file : ℕ) (s t : Ticket) (items : List HistoryItem) → is_same s t ≡ true
    → IsUntouched items t → IsAskedOnce file (submitted file s ∷ items) t
once_order file s t items e (a, b, f) = (rw e (omega arith), b, λ found. rw e (f (Some file)))

behind_order : (file index : ℕ) (s t : Ticket) (items : List HistoryItem) → is_same s t ≡ false
    → IsAskedOnce file items t → IsAskedOnce file (submitted index s ∷ items) t
behind_order file index s t items e (a, b, f) = (rw e (omega arith), b, λ found. rw e (f found))

-- an answer to another ticket
pub untouched_piece : (s t : Ticket) (count : ℕ) (genuine : Bool) → is_same s t ≡ false
    → IsUntouched (came s count genuine ∷ []) t
untouched_piece s t count genuine e = (refl, rw e refl, λ found. refl)

pub untouched_fault : (s t : Ticket) → is_same s t ≡ false → IsUntouched (failed s ∷ []) t
untouched_fault s t e = (refl, rw e refl, λ found. refl)

-- ---- the orders of a file's pieces

-- no ticket of these is the other
apart : (attempt place piece : ℕ) (t : Ticket)
    → ¬ ((t.attempt ≡ attempt) × (t.file ≡ place) × (t.piece ≡ piece))
    → is_same (ticket_of attempt place piece) t ≡ false
apart attempt place piece t differs = other_ticket (ticket_of attempt place piece) t (λ e.
    let fields = same_fields (ticket_of attempt place piece) t e in
    differs (sym fields.0, sym fields.1, sym fields.2))

abbrev pieces_from : (attempt place file start count : ℕ) → List HistoryItem
pieces_from attempt place file start count =
    map (λ piece. submitted file (ticket_of attempt place piece)) (range_with_len start count)

untouched_pieces : (attempt place file start count : ℕ) (t : Ticket)
    → ((piece : ℕ) → start ≤ piece
    → ¬ ((t.attempt ≡ attempt) × (t.file ≡ place) × (t.piece ≡ piece)))
    → IsUntouched (pieces_from attempt place file start count) t
untouched_pieces attempt place file start zero t differs = (refl, refl, λ found. refl)
untouched_pieces attempt place file start (suc count) t differs =
    untouched_order file (ticket_of attempt place start) t
    (pieces_from attempt place file (start + 1) count)
    (apart attempt place start t (differs start (omega arith)))
    (untouched_pieces attempt place file (start + 1) count t
    (λ piece l. differs piece (omega arith)))

once_pieces : (attempt place file start count : ℕ) (t : Ticket) → t.attempt ≡ attempt
    → t.file ≡ place → start ≤ t.piece → t.piece < start + count
    → IsAskedOnce file (pieces_from attempt place file start count) t
once_pieces attempt place file start zero t a f low high = absurd (omega arith)
once_pieces attempt place file start (suc count) t a f low high =
    elim (cases_lt start t.piece) [
      | inl later ↦
          behind_order file file (ticket_of attempt place start) t
          (pieces_from attempt place file (start + 1) count)
          (apart attempt place start t (λ (x, y, z). omega arith))
          (once_pieces attempt place file (start + 1) count t a f (omega arith) (omega arith))
      | inr first ↦
          let piece : t.piece ≡ start = omega arith in
          let here : is_same (ticket_of attempt place start) t ≡ true =
          rw (← a, ← f, ← piece) (is_same_self t) in
          once_order file (ticket_of attempt place start) t
          (pieces_from attempt place file (start + 1) count) here
          (untouched_pieces attempt place file (start + 1) count t
          (λ piece l (x, y, z). omega arith))
    ]

-- ---- the orders of files

pub untouched_files : (attempt place : ℕ) (indices : List ℕ) (files : List (List PieceState))
    (t : Ticket)
    → ¬ ((t.attempt ≡ attempt) × (place ≤ t.file))
    → IsUntouched (submissions_for_files attempt place indices files) t
untouched_files attempt place [] files t differs = (refl, refl, λ found. refl)
untouched_files attempt place (index ∷ indices) [] t differs = (refl, refl, λ found. refl)
untouched_files attempt place (index ∷ indices) (piece_states ∷ files) t differs =
    untouched_both (piece_submissions attempt place index (length piece_states))
    (submissions_for_files attempt (place + 1) indices files) t
    (untouched_pieces attempt place index 0 (length piece_states) t
    (λ piece l (a, f, p). differs (a, omega arith)))
    (untouched_files attempt (place + 1) indices files t (λ (a, l). differs (a, omega arith)))

-- a piece of the file that stands at this place after the first one
pub once_files : (attempt place : ℕ) (indices : List ℕ) (files : List (List PieceState)) (i : ℕ)
    (t : Ticket) → t.attempt ≡ attempt → t.file ≡ place + i → i < length indices → i < length files
    → t.piece < length (get_or files i [])
    → IsAskedOnce (get_or indices i 0) (submissions_for_files attempt place indices files) t
once_files attempt place [] files i t a f h k p = absurd (omega arith)
once_files attempt place (index ∷ indices) [] i t a f h k p = absurd (omega arith)
once_files attempt place (index ∷ indices) (piece_states ∷ files) zero t a f h k p =
    once_first index (piece_submissions attempt place index (length piece_states))
    (submissions_for_files attempt (place + 1) indices files) t
    (once_pieces attempt place index 0 (length piece_states) t a (omega arith) (omega arith)
    (omega arith))
    (untouched_files attempt (place + 1) indices files t (λ (x, l). omega arith))
once_files attempt place (index ∷ indices) (piece_states ∷ files) (suc i) t a f h k p =
    once_last (get_or indices i 0) (piece_submissions attempt place index (length piece_states))
    (submissions_for_files attempt (place + 1) indices files) t
    (untouched_pieces attempt place index 0 (length piece_states) t
    (λ piece l (x, y, z). omega arith))
    (once_files attempt (place + 1) indices files i t a (omega arith) (omega arith) (omega arith) p)

-- the file under a ticket of an attempt, once it asked for its pieces
pub found_files : (found : Option ℕ) (attempt : ℕ) (indices : List ℕ)
    (files : List (List PieceState))
    (place piece : ℕ) → length files ≡ length indices → piece < length (get_or files place [])
    → last_submitted_file found (submissions_for_files attempt 0 indices files)
    (ticket_of attempt place piece)
    ≡ Some (get_or indices place 0)
found_files found attempt indices files place piece same h =
    elim (cases_lt place (length files)) [
      | inl within ↦
          (once_files attempt 0 indices files place (ticket_of attempt place piece) refl
          (omega arith) (omega arith) within h).2 found
      | inr past ↦
          let none : length (get_or files place []) ≡ 0 =
          ap length (get_or_past files place [] past) in absurd (omega arith)
    ]
