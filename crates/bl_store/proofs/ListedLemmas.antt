-- The submissions of runs in turn, by one run among the others.
use Rattle.std.proofs.Common.{◌≡◌, ℕ, ◌+◌, ◌<◌, List, [], ◌∷◌, ◌++◌, length, take, drop}
use Rattle.std.proofs.Common.{get_or, set, zero, suc, refl, ap, ◌∙◌, append_assoc, add-one, arith}
use Rattle.std.proofs.Common.{length-append, length-take, length-drop}
use Rattle.std.proofs.lemmas.List.{set_split, take-append-le, drop-append-le}
use Rattle.std.proofs.lemmas.List.Concat.{flat_map-append}
use Rattle.std.proofs.Math.Seq.{split_at, take-append-add, drop-append-add}
use Rattle.std.specs.List.{insert}
use Rattle.std.specs.Prelude.{slice_get}
use Rattle.bl_store.specs.declared.submission.Submission.{Submission}
use Rattle.bl_store.specs.Stores.{without_index}
use Rattle.bl_store.specs.internal.SubmissionRanges.{runs_listed, listed_without}

-- ---- a run among the others

listed_both : (front back : List (List Submission))
    → runs_listed (front ++ back) ≡ runs_listed front ++ runs_listed back
listed_both front back = flat_map-append (λ (run : List Submission). run) front back

pub listed_at : (runs : List (List Submission)) (index : ℕ) → index < length runs
    → runs_listed runs ≡ runs_listed (take index runs)
    ++ (get_or runs index [] ++ runs_listed (drop (index + 1) runs))
listed_at runs index within =
    rw (add-one)
    (ap runs_listed (split_at runs index [] within)
    ∙ listed_both (take index runs) (get_or runs index [] ∷ drop (suc index) runs))

pub listed_length : (runs : List (List Submission)) (index : ℕ) → index < length runs
    → length (runs_listed runs)
    ≡ length (runs_listed (take index runs))
    + (length (get_or runs index []) + length (runs_listed (drop (index + 1) runs)))
listed_length runs index within =
    ap length (listed_at runs index within)
    ∙ length-append (runs_listed (take index runs)) _
    ∙ ap (λ (n : ℕ). length (runs_listed (take index runs)) + n)
    (length-append (get_or runs index []) (runs_listed (drop (index + 1) runs)))

-- ---- a run in the place of another, or two

pub listed_set : (runs : List (List Submission)) (index : ℕ) (run : List Submission)
    → index < length runs
    → runs_listed (set runs index run)
    ≡ runs_listed (take index runs) ++ (run ++ runs_listed (drop (index + 1) runs))
listed_set runs index run within =
    rw (add-one)
    (ap runs_listed (set_split runs index run within)
    ∙ listed_both (take index runs) (run ∷ drop (suc index) runs))

insert_set : (runs : List (List Submission)) (index : ℕ) (run rest : List Submission)
    → index < length runs
    → set (insert runs (suc index) rest) index run
    ≡ take index runs ++ run ∷ rest ∷ drop (suc index) runs
insert_set [] index run rest within = absurd (omega arith)
insert_set (first ∷ runs) zero run rest within = refl
insert_set (first ∷ runs) (suc index) run rest within =
    ap (λ (l : List (List Submission)). first ∷ l)
    (insert_set runs index run rest (omega arith))

pub listed_two : (runs : List (List Submission)) (index : ℕ) (run rest : List Submission)
    → index < length runs
    → runs_listed (set (insert runs (index + 1) rest) index run)
    ≡ runs_listed (take index runs)
    ++ ((run ++ rest) ++ runs_listed (drop (index + 1) runs))
listed_two runs index run rest within =
    rw (add-one, append_assoc)
    (ap runs_listed (insert_set runs index run rest within)
    ∙ listed_both (take index runs) (run ∷ rest ∷ drop (suc index) runs))

-- ---- a place in a run

within_run : (front run back : List Submission) (at : ℕ) → at < length run
    → without_index (front ++ (run ++ back)) (length front + at) ≡ front ++ (without_index run at ++ back)
within_run front run back at within =
    let next : length front + at + 1 ≡ length front + (at + 1) = omega arith in
    let kept : take (length front + at) (front ++ (run ++ back)) ≡ front ++ take at run =
    take-append-add front (run ++ back) at
    ∙ ap (λ (l : List Submission). front ++ l) (take-append-le at run back (omega arith)) in
    let left : drop (length front + at + 1) (front ++ (run ++ back)) ≡ drop (at + 1) run ++ back =
    ap (λ (n : ℕ). drop n (front ++ (run ++ back))) next
    ∙ drop-append-add front (run ++ back) (at + 1)
    ∙ drop-append-le (at + 1) run back (omega arith) in
    rw (kept, left) (simp append_assoc)

pub place_without : (runs : List (List Submission)) (index at : ℕ) → index < length runs
    → at < length (get_or runs index [])
    → without_index (runs_listed runs) (length (runs_listed (take index runs)) + at)
    ≡ listed_without runs index at
place_without runs index at within inside =
    let front : List Submission = runs_listed (take index runs) in
    ap (λ (l : List Submission). without_index l (length front + at)) (listed_at runs index within)
    ∙ within_run front (get_or runs index []) (runs_listed (drop (index + 1) runs)) at inside

get_past : (front others : List Submission) (at : ℕ)
    → slice_get (front ++ others) (length front + at) ≡ slice_get others at
get_past [] others at = let same : 0 + at ≡ at = omega arith in ap (slice_get others) same
get_past (first ∷ front) others at =
    let same : suc (length front) + at ≡ suc (length front + at) = omega arith in
    ap (slice_get (first ∷ (front ++ others))) same ∙ get_past front others at

get_before : (run back : List Submission) (at : ℕ) → at < length run
    → slice_get (run ++ back) at ≡ slice_get run at
get_before [] back at inside = absurd (omega arith)
get_before (first ∷ run) back zero inside = refl
get_before (first ∷ run) back (suc at) inside = get_before run back at (omega arith)

pub listed_get : (runs : List (List Submission)) (index at : ℕ) → index < length runs
    → at < length (get_or runs index [])
    → slice_get (runs_listed runs) (length (runs_listed (take index runs)) + at)
    ≡ slice_get (get_or runs index []) at
listed_get runs index at within inside =
    let front : List Submission = runs_listed (take index runs) in
    let back : List Submission = runs_listed (drop (index + 1) runs) in
    ap (λ (l : List Submission). slice_get l (length front + at)) (listed_at runs index within)
    ∙ get_past front (get_or runs index [] ++ back) at
    ∙ get_before (get_or runs index []) back at inside

pub length_without : {T : Type 0} (all : List T) (place : ℕ) → place < length all
    → length (without_index all place) + 1 ≡ length all
length_without all place within = simp (length-append, length-take, length-drop) (omega arith)
