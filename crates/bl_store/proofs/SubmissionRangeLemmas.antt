-- A run of submissions, as their list.
use Rattle.std.proofs.Common.{◌≡◌, ◌↔◌, ℕ, ◌+◌, ◌-◌, ◌<◌, ◌≤◌, [], ◌∷◌, ◌++◌, length, take, drop}
use Rattle.std.proofs.Common.{None, Some, zero, suc, refl, sym, ap, ◌∙◌, arith}
use Rattle.std.specs.Prelude.{slice_get, map}
use Rattle.std.specs.List.{range_with_len}
use Rattle.std.proofs.lemmas.List.FromFn.{length-map-range_with_len, take-map-range_with_len}
use Rattle.std.proofs.lemmas.List.FromFn.{get_or-map-range_with_len, map-range_with_len_more}
use Rattle.std.proofs.lemmas.Option.{slice_get-get_or, slice_get_past}
use Rattle.bl_store.specs.declared.submission.Submission.{Submission}
use Rattle.bl_store.specs.internal.SubmissionRanges.{submission_for_piece, submissions_from}
use Rattle.bl_store.specs.internal.SubmissionRanges.{GoesOn}

pub run_length : (first : Submission) (count : ℕ) → length (submissions_from first count) ≡ count
run_length first count = length-map-range_with_len (submission_for_piece first) first.ticket.piece count

pub run_get : (first : Submission) (count place : ℕ) → place < count
    → slice_get (submissions_from first count) place
    ≡ Some (submission_for_piece first (first.ticket.piece + place))
run_get first count place within =
    slice_get-get_or (submissions_from first count) place first
    (omega (arith, run_length first count))
    ∙ ap Some
    (get_or-map-range_with_len (submission_for_piece first) first.ticket.piece count place
    (first.ticket.piece + place) first within refl)

pub run_past : (first : Submission) (count place : ℕ) → count ≤ place
    → slice_get (submissions_from first count) place ≡ None
run_past first count place past =
    slice_get_past (submissions_from first count) place (omega (arith, run_length first count))

pub run_take : (first : Submission) (count kept : ℕ) → kept ≤ count
    → take kept (submissions_from first count) ≡ submissions_from first kept
run_take first count kept within =
    take-map-range_with_len (submission_for_piece first) first.ticket.piece count kept within

pieces_after : {X : Type 0} (f : ℕ → X) (piece count place : ℕ) → place ≤ count
    → drop place (map f (range_with_len piece count))
    ≡ map f (range_with_len (piece + place) (count - place))
pieces_after f piece count zero within =
    let from : piece + 0 ≡ piece = omega arith in
    let left : count - 0 ≡ count = omega arith in
    rw (from, left) refl
pieces_after f piece zero (suc place) within = absurd (omega arith)
pieces_after f piece (suc count) (suc place) within =
    let from : piece + suc place ≡ piece + 1 + place = omega arith in
    let left : suc count - suc place ≡ count - place = omega arith in
    rw (from, left) (pieces_after f (piece + 1) count place (omega arith))

pub run_drop : (first : Submission) (count place : ℕ) → place ≤ count
    → drop place (submissions_from first count)
    ≡ submissions_from (submission_for_piece first (first.ticket.piece + place)) (count - place)
run_drop first count place within =
    pieces_after (submission_for_piece first) first.ticket.piece count place within

pub run_more : (first : Submission) (count : ℕ)
    → submissions_from first (count + 1)
    ≡ submissions_from first count ++ submission_for_piece first (first.ticket.piece + count) ∷ []
run_more first count =
    map-range_with_len_more (submission_for_piece first) first.ticket.piece count _ refl

pub run_goes_on : (first : Submission) (count : ℕ) (submission : Submission) → 0 < count
    → GoesOn (submissions_from first count) submission
    ↔ (submission ≡ submission_for_piece first (first.ticket.piece + count))
run_goes_on first zero submission some = absurd (omega arith)
run_goes_on first (suc count) submission some =
    let long : length (submissions_from first (suc count)) ≡ suc count =
    run_length first (suc count) in
    let last : submission_for_piece first (first.ticket.piece + length (submissions_from first (suc count)))
    ≡ submission_for_piece first (first.ticket.piece + suc count) =
    ap (λ (n : ℕ). submission_for_piece first (first.ticket.piece + n)) long in
    ((λ e. e ∙ last), (λ e. e ∙ sym last))
