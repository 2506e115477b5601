-- Orders, asked for one after the other.
use Rattle.std.proofs.Common.{◌≡◌, ℕ, ◌+◌, ◌<◌, ◌≤◌, List, [], ◌∷◌, ◌++◌, length, drop, refl, sym}
use Rattle.std.proofs.Common.{ap, subst, ◌∙◌, arith, append_assoc}
use Rattle.std.proofs.lemmas.List.{append-nil, drop_more, drop_all}
use Rattle.std.proofs.lemmas.List.FromFn.{length-map-range_with_len, get_or-map-range_with_len}
use Rattle.bl_store.specs.History.{HistoryItem, submitted, nothing}
use Rattle.bl_session.specs.attempt.AwaitedTickets.{ticket_of}
use Rattle.bl_session.specs.session.Submissions.{piece_submissions, attempt_submissions}
use Rattle.bl_session.specs.internal.session.Submitted.{AreAskedButRest}

-- ---- one part of the orders after the other

pub asked_none : (attempt_submissions given : List HistoryItem)
    → AreAskedButRest attempt_submissions attempt_submissions given given
asked_none attempt_submissions given =
    record { asked = []; all = refl; given = sym (append-nil given) }

pub asked_on : (attempt_submissions xs rest old mid new : List HistoryItem)
    → AreAskedButRest attempt_submissions (xs ++ rest) old mid
    → new ≡ mid ++ xs → AreAskedButRest attempt_submissions rest old new
asked_on attempt_submissions xs rest old mid new a e = record {
  asked = a.asked ++ xs;
  all = a.all ∙ sym (append_assoc a.asked xs rest);
  given = e ∙ ap (λ (g : List HistoryItem). g ++ xs) a.given ∙ append_assoc old a.asked xs;
}

pub asked_part : (attempt_submissions xs more rest old mid new : List HistoryItem)
    → AreAskedButRest attempt_submissions (xs ++ rest) old mid
    → AreAskedButRest xs more mid new → AreAskedButRest attempt_submissions (more ++ rest) old new
asked_part attempt_submissions xs more rest old mid new a b = record {
  asked = a.asked ++ b.asked;
  all = a.all ∙ ap (λ (l : List HistoryItem). a.asked ++ (l ++ rest)) b.all ∙ simp append_assoc;
  given = b.given ∙ ap (λ (g : List HistoryItem). g ++ b.asked) a.given
      ∙ append_assoc old a.asked b.asked;
}

pub asked_all : (attempt_submissions rest old new : List HistoryItem)
    → AreAskedButRest attempt_submissions rest old new → rest ≡ []
    → new ≡ old ++ attempt_submissions
asked_all attempt_submissions rest old new a e =
    a.given
    ∙ ap (λ (l : List HistoryItem). old ++ l)
    (sym (append-nil a.asked) ∙ sym (a.all ∙ ap (λ (l : List HistoryItem). a.asked ++ l) e))

-- ---- the pieces of one file

length-pieces : (attempt place file count : ℕ)
    → length (piece_submissions attempt place file count) ≡ count
length-pieces attempt place file count =
    length-map-range_with_len (λ piece. submitted file (ticket_of attempt place piece)) 0 count

piece_next : (attempt place file count i : ℕ) → i < count
    → drop i (piece_submissions attempt place file count)
    ≡ submitted file (ticket_of attempt place i)
    ∷ drop (i + 1) (piece_submissions attempt place file count)
piece_next attempt place file count i h =
    let long = length-pieces attempt place file count in
    let all = piece_submissions attempt place file count in
    drop_more all i nothing (omega arith)
    ∙ ap (λ (x : HistoryItem). x ∷ drop (i + 1) all)
    (get_or-map-range_with_len (λ piece. submitted file (ticket_of attempt place piece)) 0 count
    i i nothing h (omega arith))

pub asked_piece : (attempt place file count i : ℕ) (old mid new : List HistoryItem) → i < count
    → AreAskedButRest (piece_submissions attempt place file count)
    (drop i (piece_submissions attempt place file count)) old mid
    → new ≡ mid ++ submitted file (ticket_of attempt place i) ∷ []
    → AreAskedButRest (piece_submissions attempt place file count)
    (drop (i + 1) (piece_submissions attempt place file count)) old new
asked_piece attempt place file count i old mid new h a e =
    let all = piece_submissions attempt place file count in
    let x = submitted file (ticket_of attempt place i) in
    asked_on all (x ∷ []) (drop (i + 1) all) old mid new
    (subst (λ (l : List HistoryItem). AreAskedButRest all l old mid)
    (piece_next attempt place file count i h)
    a) e

pub asked_pieces : (attempt place file count i : ℕ) (old new : List HistoryItem) → count ≤ i
    → AreAskedButRest (piece_submissions attempt place file count)
    (drop i (piece_submissions attempt place file count)) old new
    → new ≡ old ++ piece_submissions attempt place file count
asked_pieces attempt place file count i old new h a =
    let long = length-pieces attempt place file count in
    let all = piece_submissions attempt place file count in
    asked_all all (drop i all) old new a (drop_all i all (omega arith))
