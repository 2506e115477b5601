-- What the calls on a list of runs find, and what they leave.
use Rattle.std.proofs.Common.{◌≡◌, ℕ, ◌+◌, ◌<◌, List, [], ◌∷◌, ◌++◌, length, take, drop}
use Rattle.std.proofs.Common.{get_or, set, sym, ap, subst, ◌∙◌, append_assoc}
use Rattle.std.proofs.Common.{length-take, arith}
use Rattle.std.proofs.lemmas.List.{get_or_read, get_or_append_left, get_or-take, drop_all}
use Rattle.std.proofs.lemmas.List.{append-nil}
use Rattle.std.specs.List.{insert}
use Rattle.std.specs.Prelude.{slice_get}
use Rattle.bl_store.specs.declared.submission.Submission.{Submission}
use Rattle.bl_store.specs.Stores.{without_index}
use Rattle.bl_store.specs.internal.SubmissionRanges.{runs_listed, listed_without}
use Rattle.bl_store.specs.internal.SubmissionRanges.{IsPlaceInRun}
use Rattle.bl_store.proofs.ListedLemmas.{listed_at, listed_length, listed_set}
use Rattle.bl_store.proofs.ListedLemmas.{listed_two}
use Rattle.bl_store.proofs.ListedLemmas.{place_without, listed_get, length_without}

-- ---- a run that was read, and one that is written in its place

left_in_place : (runs : List (List Submission)) (index at : ℕ) (run left : List Submission)
    → index < length runs → run ≡ get_or runs index run → left ≡ without_index run at
    → runs_listed (set runs index left) ≡ listed_without runs index at
left_in_place runs index at run left within is left_is =
    listed_set runs index left within
    ∙ ap (λ (l : List Submission).
    runs_listed (take index runs) ++ (l ++ runs_listed (drop (index + 1) runs)))
    (left_is
    ∙ ap (λ (r : List Submission). without_index r at) (get_or_read runs index run within is []))

pub first_left_out : (runs : List (List Submission)) (index at : ℕ) (run left : List Submission)
    → index < length runs → run ≡ get_or runs index run → at ≡ 0 → left ≡ drop 1 run
    → runs_listed (set runs index left) ≡ listed_without runs index at
first_left_out runs index at run left within is first left_is =
    left_in_place runs index at run left within is
    (left_is ∙ ap (λ (n : ℕ). without_index run n) (sym first))

pub last_left_out : (runs : List (List Submission)) (index at count : ℕ)
    (read run left : List Submission) → index < length runs
    → at + 1 ≡ count → count ≡ length read → read ≡ get_or runs index read
    → run ≡ get_or runs index run → left ≡ take at run
    → runs_listed (set runs index left) ≡ listed_without runs index at
last_left_out runs index at count read run left within last count_is read_is is left_is =
    let same : read ≡ run =
    get_or_read runs index read within read_is [] ∙ sym (get_or_read runs index run within is []) in
    let none : drop (at + 1) run ≡ [] = drop_all (at + 1) run (omega (arith, ap length same)) in
    left_in_place runs index at run left within is
    (left_is
    ∙ sym (append-nil (take at run))
    ∙ ap (λ (l : List Submission). take at run ++ l) (sym none))

pub inner_left_out : (runs : List (List Submission)) (index at : ℕ)
    (read rest run left : List Submission) → index < length runs
    → read ≡ get_or runs index read → rest ≡ drop (at + 1) read
    → run ≡ get_or (insert runs (index + 1) rest) index run → left ≡ take at run
    → runs_listed (set (insert runs (index + 1) rest) index left) ≡ listed_without runs index at
inner_left_out runs index at read rest run left within read_is rest_is is left_is =
    let front : List (List Submission) = take (index + 1) runs in
    let inside : index < length front = omega (arith, length-take (index + 1) runs) in
    let still : get_or (insert runs (index + 1) rest) index run ≡ get_or runs index run =
    get_or_append_left front (rest ∷ drop (index + 1) runs) run index inside
    ∙ get_or-take (index + 1) runs index run (omega arith) in
    let same : read ≡ get_or runs index [] = get_or_read runs index read within read_is [] in
    let same_still : run ≡ get_or runs index [] =
    get_or_read runs index run within (is ∙ still) [] in
    listed_two runs index left rest within
    ∙ ap (λ (l : List Submission).
    runs_listed (take index runs) ++ (l ++ runs_listed (drop (index + 1) runs)))
    (ap (λ (l : List Submission). l ++ rest) (left_is ∙ ap (take at) same_still)
    ∙ ap (λ (l : List Submission). take at (get_or runs index []) ++ l)
    (rest_is ∙ ap (drop (at + 1)) same))

pub last_longer : (runs : List (List Submission)) (last : ℕ) (run longer more : List Submission)
    → last + 1 ≡ length runs → run ≡ get_or runs last run → longer ≡ run ++ more
    → runs_listed (set runs last longer) ≡ runs_listed runs ++ more
last_longer runs last run longer more is_last is longer_is =
    let within : last < length runs = omega arith in
    let none : drop (last + 1) runs ≡ [] = drop_all (last + 1) runs (omega arith) in
    let same : get_or runs last [] ≡ run = sym (get_or_read runs last run within is []) in
    let front : List Submission = runs_listed (take last runs) in
    let all : runs_listed runs ≡ front ++ run =
    listed_at runs last within
    ∙ ap (λ (l : List (List Submission)). front ++ (get_or runs last [] ++ runs_listed l)) none
    ∙ ap (λ (l : List Submission). front ++ l) (append-nil (get_or runs last []) ∙ same) in
    listed_set runs last longer within
    ∙ ap (λ (l : List (List Submission)). front ++ (longer ++ runs_listed l)) none
    ∙ ap (λ (l : List Submission). front ++ l) (append-nil longer ∙ longer_is)
    ∙ sym (append_assoc front run more)
    ∙ ap (λ (l : List Submission). l ++ more) (sym all)

-- ---- what was found

pub placed_get : (runs slice : List (List Submission)) (place index at : ℕ)
    (run : List Submission) → slice ≡ runs → IsPlaceInRun slice place index at
    → run ≡ get_or runs index run → slice_get run at ≡ slice_get (runs_listed runs) place
placed_get runs slice place index at run shown stands is =
    let stands_in : IsPlaceInRun runs place index at =
    subst (λ (l : List (List Submission)). IsPlaceInRun l place index at) shown stands in
    ap (λ (r : List Submission). slice_get r at)
    (get_or_read runs index run stands_in.0 is [])
    ∙ sym (listed_get runs index at stands_in.0 stands_in.1)
    ∙ ap (slice_get (runs_listed runs)) (sym stands_in.2)

pub record IsLeftOut (runs : List (List Submission)) (place : ℕ) (left : List Submission)
    : Type 0 where
  pub list : left ≡ without_index (runs_listed runs) place
  pub fewer : length left + 1 ≡ length (runs_listed runs)

pub left_out : (runs slice : List (List Submission)) (place index at : ℕ)
    (left : List Submission) → slice ≡ runs → IsPlaceInRun slice place index at
    → left ≡ listed_without runs index at → IsLeftOut runs place left
left_out runs slice place index at left shown stands left_is =
    let stands_in : IsPlaceInRun runs place index at =
    subst (λ (l : List (List Submission)). IsPlaceInRun l place index at) shown stands in
    let list : left ≡ without_index (runs_listed runs) place =
    left_is
    ∙ sym (place_without runs index at stands_in.0 stands_in.1)
    ∙ ap (without_index (runs_listed runs)) (sym stands_in.2) in
    let inside : place < length (runs_listed runs) =
    omega (arith, listed_length runs index stands_in.0) in
    record {
      list = list;
      fewer =
          ap (λ (l : List Submission). length l + 1) list
          ∙ length_without (runs_listed runs) place inside;
    }

pub last_of_run : (runs slice : List (List Submission)) (place index at : ℕ)
    → slice ≡ runs → IsPlaceInRun slice place index at → place + 1 ≡ length (runs_listed runs)
    → at + 1 ≡ length (get_or runs index [])
last_of_run runs slice place index at shown stands last =
    let stands_in : IsPlaceInRun runs place index at =
    subst (λ (l : List (List Submission)). IsPlaceInRun l place index at) shown stands in
    omega (arith, listed_length runs index stands_in.0)
