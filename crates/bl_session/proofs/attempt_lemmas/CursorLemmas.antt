-- The cursor over an attempt's pieces: the first missing piece is the first from it on, and none
-- below that one is missing.
use Rattle.std.proofs.Common.{◌≡◌, ℕ, zero, suc, ◌+◌, ◌<◌, ◌≤◌, Bool, true, false, List, [], ◌∷◌}
use Rattle.std.proofs.Common.{length, drop, get_or, Option, None, Some, refl, sym, ap, ◌∙◌, inl}
use Rattle.std.proofs.Common.{inr}
use Rattle.std.proofs.Common.{arith}
use Rattle.std.proofs.lemmas.List.{drop_all}
use Rattle.std.proofs.lemmas.Bool.{cases_lt}
use Rattle.bl_stage.specs.Staged.{Staging}
use Rattle.bl_stage.specs.Pieces.{is_missing}
use Rattle.bl_stage.specs.PieceStates.{PieceState, lacks, has, piece_states}
use Rattle.bl_store.specs.declared.ticket.Ticket.{Ticket}
use Rattle.bl_session.specs.attempt.AwaitedPieces.{is_awaited, piece_state_of, with_piece}
use Rattle.bl_session.specs.attempt.AwaitedTickets.{ticket_of, first_awaited_piece, first_ticket}
use Rattle.bl_session.specs.attempt.AwaitedTickets.{ticket_or}
use Rattle.bl_session.specs.internal.attempt.Cursors.{NoneMissingBelow, first_ticket_from}
use Rattle.bl_session.proofs.attempt_lemmas.AwaitedLemmas.{still_awaited}
use Rattle.bl_session.proofs.attempt_lemmas.MissingLemmas.{file_next}
use Rattle.bl_session.proofs.attempt_lemmas.PieceStateLemmas.{length-piece_states}
use Rattle.bl_session.proofs.attempt_lemmas.RequestLemmas.{from_past}
use Rattle.bl_session.proofs.attempt_lemmas.StoredLemmas.{missing_awaited}

-- ---- where none before is awaited, the first one is the first from there on

none_at_all : (i : ℕ) (all : List PieceState)
    → ((k : ℕ) → is_awaited (get_or all k (has [])) ≡ false) → first_awaited_piece i all ≡ None
none_at_all i [] none = refl
none_at_all i (lacks size ∷ all) none = absurd (let bad = none 0 in cc)
none_at_all i (has bytes ∷ all) none = none_at_all (i + 1) all (λ k. none (suc k))

from_piece : (i piece : ℕ) (all : List PieceState)
    → ((k : ℕ) → k < piece → is_awaited (get_or all k (has [])) ≡ false)
    → first_awaited_piece i all ≡ first_awaited_piece (i + piece) (drop piece all)
from_piece i zero all none =
    let at : i ≡ i + 0 = omega arith in ap (λ n. first_awaited_piece n all) at
from_piece i (suc piece) [] none = refl
from_piece i (suc piece) (lacks size ∷ all) none =
    absurd (let bad = none 0 (omega arith) in cc)
from_piece i (suc piece) (has bytes ∷ all) none =
    let at : i + 1 + piece ≡ i + suc piece = omega arith in
    from_piece (i + 1) piece all (λ k h. none (suc k) (omega arith))
    ∙ ap (λ n. first_awaited_piece n (drop piece all)) at

from_file : (attempt place file : ℕ) (files : List (List PieceState))
    → ((f k : ℕ) → f < file → is_awaited (piece_state_of files f k) ≡ false)
    → first_ticket attempt place files ≡ first_ticket attempt (place + file) (drop file files)
from_file attempt place zero files none =
    let at : place ≡ place + 0 = omega arith in ap (λ n. first_ticket attempt n files) at
from_file attempt place (suc file) [] none = refl
from_file attempt place (suc file) (all ∷ files) none =
    let here : first_awaited_piece 0 all ≡ None =
    none_at_all 0 all (λ k. none 0 k (omega arith)) in
    let at : place + 1 + file ≡ place + suc file = omega arith in
    ap (ticket_or attempt place (first_ticket attempt (place + 1) files)) here
    ∙ from_file attempt (place + 1) file files (λ f k h. none (suc f) k (omega arith))
    ∙ ap (λ n. first_ticket attempt n (drop file files)) at

pub first_from : (attempt file piece : ℕ) (bytes : List ℕ) (stage : Staging)
    → NoneMissingBelow stage file piece
    → first_ticket_from attempt (piece_states bytes stage) file piece
    ≡ first_ticket attempt 0 (piece_states bytes stage)
first_from attempt file piece bytes stage below =
    let files = piece_states bytes stage in
    let long = length-piece_states bytes stage in
    let file_at : 0 + file ≡ file = omega arith in
    let piece_at : 0 + piece ≡ piece = omega arith in
    let on : first_ticket attempt 0 files ≡ first_ticket attempt file (drop file files) =
    from_file attempt 0 file files
    (λ f k h. sym (missing_awaited bytes stage f k) ∙ below.files f k h)
    ∙ ap (λ n. first_ticket attempt n (drop file files)) file_at in
    let tail = get_or files file [] in
    let within : first_awaited_piece 0 tail ≡ first_awaited_piece piece (drop piece tail) =
    from_piece 0 piece tail
    (λ k h. sym (missing_awaited bytes stage file k) ∙ below.pieces k h)
    ∙ ap (λ n. first_awaited_piece n (drop piece tail)) piece_at in
    elim (cases_lt file (length stage.sizes)) [
      | inl h ↦
          sym
          (on ∙ file_next attempt file files (omega arith)
          ∙ ap (ticket_or attempt file (first_ticket attempt (file + 1) (drop (file + 1) files)))
          within)
      | inr past ↦
          sym (from_past attempt bytes stage file piece past)
          ∙ sym (on ∙ none_left attempt file files (omega arith))
    ]
  where
    none_left : (attempt file : ℕ) (files : List (List PieceState)) → length files ≤ file
        → first_ticket attempt file (drop file files) ≡ None
    none_left attempt file files h = ap (first_ticket attempt file) (drop_all file files h)

-- ---- none below the first one is awaited

none_of : (i : ℕ) (all : List PieceState) → first_awaited_piece i all ≡ None
    → (k : ℕ) → is_awaited (get_or all k (has [])) ≡ false
none_of i [] e k = refl
none_of i (lacks size ∷ all) e k = absurd cc
none_of i (has bytes ∷ all) e zero = refl
none_of i (has bytes ∷ all) e (suc k) = none_of (i + 1) all e k

none_before : (i : ℕ) (all : List PieceState) (j : ℕ) → first_awaited_piece i all ≡ Some j
    → (k : ℕ) → i + k < j → is_awaited (get_or all k (has [])) ≡ false
none_before i [] j e k h = refl
none_before i (lacks size ∷ all) j e k h = absurd (let same : i ≡ j = cc in omega arith)
none_before i (has bytes ∷ all) j e zero h = refl
none_before i (has bytes ∷ all) j e (suc k) h = none_before (i + 1) all j e k (omega arith)

-- of the files before that of a ticket none, and none before it in its own
record ComesFirst (place : ℕ) (files : List (List PieceState)) (t : Ticket) : Type 0 where
  later : place ≤ t.file
  files_before : (f k : ℕ) → place + f < t.file → is_awaited (piece_state_of files f k) ≡ false
  pieces_before : (f k : ℕ) → place + f ≡ t.file → k < t.piece
      → is_awaited (piece_state_of files f k) ≡ false

comes_first : (attempt place : ℕ) (files : List (List PieceState)) (t : Ticket)
    → first_ticket attempt place files ≡ Some t → ComesFirst place files t
comes_first attempt place [] t e = absurd cc
comes_first attempt place (all ∷ files) t e =
    chosen (comes_first attempt (place + 1) files t) (first_awaited_piece 0 all) refl e
  where
    chosen : (first_ticket attempt (place + 1) files ≡ Some t → ComesFirst (place + 1) files t)
        → (found : Option ℕ) → first_awaited_piece 0 all ≡ found
        → ticket_or attempt place (first_ticket attempt (place + 1) files) found ≡ Some t
        → ComesFirst place (all ∷ files) t
    chosen others None is e =
        let next = others e in
        let after = next.later in
        record {
          later = omega arith;
          files_before = λ f k h. before f k h;
          pieces_before = λ f k same h. own f k same h;
        }
      where
        next : ComesFirst (place + 1) files t
        next = others e

        before : (f k : ℕ) → place + f < t.file
            → is_awaited (piece_state_of (all ∷ files) f k) ≡ false
        before zero k h = none_of 0 all is k
        before (suc f) k h = next.files_before f k (omega arith)

        own : (f k : ℕ) → place + f ≡ t.file → k < t.piece
            → is_awaited (piece_state_of (all ∷ files) f k) ≡ false
        own zero k same h = absurd (let after = next.later in omega arith)
        own (suc f) k same h = next.pieces_before f k (omega arith) h
    chosen others (Some j) is e =
        let here : ticket_of attempt place j ≡ t = cc in
        let file : place ≡ t.file = ap (λ (x : Ticket). x.file) here in
        let piece : j ≡ t.piece = ap (λ (x : Ticket). x.piece) here in
        record {
          later = omega arith;
          files_before = λ f k h. absurd (omega arith);
          pieces_before = λ f k same h. own file piece f k same h;
        }
      where
        own : place ≡ t.file → j ≡ t.piece → (f k : ℕ) → place + f ≡ t.file → k < t.piece
            → is_awaited (piece_state_of (all ∷ files) f k) ≡ false
        own file piece zero k same h = none_before 0 all j is k (omega arith)
        own file piece (suc f) k same h = absurd (omega arith)

pub none_below_first : (attempt : ℕ) (bytes : List ℕ) (stage : Staging) (t : Ticket)
    → first_ticket attempt 0 (piece_states bytes stage) ≡ Some t
    → NoneMissingBelow stage t.file t.piece
none_below_first attempt bytes stage t e =
    let first = comes_first attempt 0 (piece_states bytes stage) t e in
    record {
      files = λ f k h. missing_awaited bytes stage f k ∙ first.files_before f k (omega arith);
      pieces = λ k h. missing_awaited bytes stage t.file k
          ∙ first.pieces_before t.file k (omega arith) h;
    }

-- ---- none below the cursor is missing once one more came

not_true : (b : Bool) → ¬ (b ≡ true) → b ≡ false
not_true true h = absurd (h refl)
not_true false h = refl

still_came : (old new : List ℕ) (stage later : Staging) (ticket : Ticket) (bytes : List ℕ)
    → piece_states new later ≡ with_piece (piece_states old stage) ticket.file ticket.piece bytes
    → (f k : ℕ) → is_missing stage f k ≡ false → is_missing later f k ≡ false
still_came old new stage later ticket bytes is f k e =
    not_true (is_missing later f k) (λ missing.
    let files = piece_states old stage in
    let awaited : is_awaited (piece_state_of (with_piece files ticket.file ticket.piece bytes) f k)
    ≡ true =
    ap (λ (s : List (List PieceState)). is_awaited (piece_state_of s f k)) (sym is)
    ∙ sym (missing_awaited new later f k) ∙ missing in
    let same = (still_awaited files ticket.file ticket.piece bytes f k awaited).1 in
    let before : is_missing stage f k ≡ true =
    missing_awaited old stage f k ∙ ap is_awaited (sym same) ∙ awaited in
    cc)

pub none_below_later : (old new : List ℕ) (stage later : Staging) (ticket : Ticket)
    (bytes : List ℕ) (file piece : ℕ)
    → piece_states new later ≡ with_piece (piece_states old stage) ticket.file ticket.piece bytes
    → NoneMissingBelow stage file piece → NoneMissingBelow later file piece
none_below_later old new stage later ticket bytes file piece is below = record {
  files = λ f k h. still_came old new stage later ticket bytes is f k (below.files f k h);
  pieces = λ k h. still_came old new stage later ticket bytes is file k (below.pieces k h);
}
