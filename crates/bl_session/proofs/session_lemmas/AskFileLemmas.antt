-- The orders of an attempt's files, asked for one after the other.
use Rattle.std.proofs.Common.{◌≡◌, ℕ, suc, ◌+◌, ◌<◌, ◌≤◌, List, [], ◌∷◌, ◌++◌, length, map, drop}
use Rattle.std.proofs.Common.{get_or, Result, refl, sym, ap, subst, ◌∙◌, arith}
use Rattle.std.specs.List.{range_with_len}
use Rattle.std.proofs.lemmas.List.{drop_more, drop_all}
use Rattle.bl_map.specs.PoolFrames.{frames_of}
use Rattle.bl_load.specs.declared.refused_entry.RefusedEntry.{RefusedEntry}
use Rattle.bl_stage.specs.Staged.{Staging}
use Rattle.bl_stage.specs.PieceStates.{PieceState, piece_states, piece_states_of}
use Rattle.bl_store.specs.History.{HistoryItem}
use Rattle.bl_session.specs.session.BootSteps.{BootFacts}
use Rattle.bl_session.specs.menu.Menu.{entry_at}
use Rattle.bl_session.specs.session.Submissions.{piece_submissions, submissions_for_files}
use Rattle.bl_session.specs.session.Submissions.{attempt_submissions}
use Rattle.bl_session.specs.session.Phases.{PhaseFacts, waits, state_at}
use Rattle.bl_session.specs.internal.session.Submitted.{AreAskedButRest, AreSubmitted}
use Rattle.bl_session.proofs.attempt_lemmas.PieceStateLemmas.{length-piece_states_of}
use Rattle.bl_session.proofs.session_lemmas.AskLemmas.{asked_on, asked_part, asked_all}

-- ---- the files of an attempt

-- by their sizes
abbrev pub sized_orders : (attempt place : ℕ) → (files sizes : List ℕ) → List HistoryItem
sized_orders attempt place [] sizes = []
sized_orders attempt place (file ∷ files) [] = []
sized_orders attempt place (file ∷ files) (size ∷ sizes) =
    piece_submissions attempt place file (frames_of size)
    ++ sized_orders attempt (place + 1) files sizes

sized_by : (S : ℕ → List PieceState) (attempt place start : ℕ) (files sizes : List ℕ)
    → ((k : ℕ) → k < length sizes → length (S (start + k)) ≡ frames_of (get_or sizes k 0))
    → submissions_for_files attempt place files (map S (range_with_len start (length sizes)))
    ≡ sized_orders attempt place files sizes
sized_by S attempt place start [] sizes h = refl
sized_by S attempt place start (file ∷ files) [] h = refl
sized_by S attempt place start (file ∷ files) (size ∷ sizes) h =
    let first : start ≡ start + 0 = omega arith in
    let here : length (S start) ≡ frames_of size =
    ap (λ n. length (S n)) first ∙ h 0 (omega arith) in
    let more =
    sized_by S attempt (place + 1) (start + 1) files sizes
    (λ k l. let next : start + 1 + k ≡ start + suc k = omega arith in
    ap (λ n. length (S n)) next ∙ h (suc k) (omega arith)) in
    ap (λ n.
    piece_submissions attempt place file n
    ++ submissions_for_files attempt (place + 1) files
    (map S (range_with_len (start + 1) (length sizes)))) here
    ∙ ap (λ (l : List HistoryItem). piece_submissions attempt place file (frames_of size) ++ l) more

pub orders_sized : (bytes : List ℕ) (stage : Staging) (attempt : ℕ) (files : List ℕ)
    → submissions_for_files attempt 0 files (piece_states bytes stage)
    ≡ sized_orders attempt 0 files stage.sizes
orders_sized bytes stage attempt files =
    sized_by (λ file. piece_states_of bytes stage file) attempt 0 0 files stage.sizes
    (λ k h. let same : 0 + k ≡ k = omega arith in
    ap (λ n. length (piece_states_of bytes stage n)) same ∙ length-piece_states_of bytes stage k)

sized_next : (attempt place : ℕ) (files sizes : List ℕ) → place < length files
    → place < length sizes
    → sized_orders attempt place (drop place files) (drop place sizes)
    ≡ piece_submissions attempt place (get_or files place 0) (frames_of (get_or sizes place 0))
    ++ sized_orders attempt (place + 1) (drop (place + 1) files) (drop (place + 1) sizes)
sized_next attempt place files sizes f s =
    rw (drop_more files place 0 f, drop_more sizes place 0 s) refl

-- one more file
pub asked_file : (attempt place file count : ℕ) (files sizes : List ℕ)
    (old mid new : List HistoryItem)
    → place < length files → place < length sizes → file ≡ get_or files place 0
    → count ≡ frames_of (get_or sizes place 0)
    → AreAskedButRest (sized_orders attempt 0 files sizes)
    (sized_orders attempt place (drop place files) (drop place sizes)) old mid
    → new ≡ mid ++ piece_submissions attempt place file count
    → AreAskedButRest (sized_orders attempt 0 files sizes)
    (sized_orders attempt (place + 1) (drop (place + 1) files) (drop (place + 1) sizes)) old new
asked_file attempt place file count files sizes old mid new f s is counts a e =
    asked_on (sized_orders attempt 0 files sizes)
    (piece_submissions attempt place (get_or files place 0) (frames_of (get_or sizes place 0)))
    (sized_orders attempt (place + 1) (drop (place + 1) files) (drop (place + 1) sizes)) old mid
    new
    (subst (λ (l : List HistoryItem). AreAskedButRest (sized_orders attempt 0 files sizes) l old mid)
    (sized_next attempt place files sizes f s) a)
    (e ∙ ap (λ n. mid ++ piece_submissions attempt place n count) is
    ∙ ap (λ n. mid ++ piece_submissions attempt place (get_or files place 0) n) counts)

-- a part of one more file
pub asked_some : (attempt place file count : ℕ) (files sizes : List ℕ)
    (old mid new : List HistoryItem)
    → place < length files → place < length sizes → file ≡ get_or files place 0
    → count ≡ frames_of (get_or sizes place 0)
    → AreAskedButRest (sized_orders attempt 0 files sizes)
    (sized_orders attempt place (drop place files) (drop place sizes)) old mid
    → (rest : List HistoryItem) × AreAskedButRest (piece_submissions attempt place file count) rest mid new
    → (rest : List HistoryItem) × AreAskedButRest (sized_orders attempt 0 files sizes) rest old new
asked_some attempt place file count files sizes old mid new f s is counts a b =
    let later =
    sized_orders attempt (place + 1) (drop (place + 1) files) (drop (place + 1) sizes) in
    let pieces =
    piece_submissions attempt place (get_or files place 0) (frames_of (get_or sizes place 0)) in
    let same : piece_submissions attempt place file count ≡ pieces =
    ap (λ n. piece_submissions attempt place n count) is
    ∙ ap (λ n. piece_submissions attempt place (get_or files place 0) n) counts in (
      b.0 ++ later,
      asked_part (sized_orders attempt 0 files sizes) pieces b.0 later old mid new
          (subst (λ (l : List HistoryItem). AreAskedButRest (sized_orders attempt 0 files sizes) l old mid)
          (sized_next attempt place files sizes f s) a)
          (subst (λ (l : List HistoryItem). AreAskedButRest l b.0 mid new) same b.1),
    )

pub asked_files : (bytes : List ℕ) (stage : Staging) (attempt place : ℕ) (files : List ℕ)
    (old new : List HistoryItem) → length files ≤ place
    → AreAskedButRest (sized_orders attempt 0 files stage.sizes)
    (sized_orders attempt place (drop place files) (drop place stage.sizes)) old new
    → new ≡ old ++ submissions_for_files attempt 0 files (piece_states bytes stage)
asked_files bytes stage attempt place files old new h a =
    let none : sized_orders attempt place (drop place files) (drop place stage.sizes) ≡ [] =
    ap (λ (fs : List ℕ). sized_orders attempt place fs (drop place stage.sizes))
    (drop_all place files h) in
    asked_all (sized_orders attempt 0 files stage.sizes)
    (sized_orders attempt place (drop place files) (drop place stage.sizes)) old new a none
    ∙ ap (λ (l : List HistoryItem). old ++ l) (sym (orders_sized bytes stage attempt files))

pub asked_sized : (bytes : List ℕ) (stage : Staging) (attempt : ℕ) (files : List ℕ)
    (old new : List HistoryItem)
    → (rest : List HistoryItem) × AreAskedButRest (sized_orders attempt 0 files stage.sizes) rest old new
    → (rest : List HistoryItem)
    × AreAskedButRest (submissions_for_files attempt 0 files (piece_states bytes stage)) rest old
    new
asked_sized bytes stage attempt files old new a = (
  a.0,
  subst (λ (l : List HistoryItem). AreAskedButRest l a.0 old new)
      (sym (orders_sized bytes stage attempt files)) a.1,
)

-- what a session asks for
pub asked_in : {T E : Type 0} (result : Result T E) (facts : BootFacts) (phase : PhaseFacts)
    (entry : ℕ) (rest : List ℕ) (earlier : List RefusedEntry) (stage : Staging) (number : ℕ)
    (files : List ℕ) (old new : List HistoryItem)
    → phase ≡ waits entry rest earlier stage → number ≡ length earlier
    → files ≡ (entry_at facts.menu entry).files
    → ((bytes : List ℕ) → AreSubmitted result
    (submissions_for_files number 0 files (piece_states bytes stage)) old new)
    → (bytes : List ℕ) → AreSubmitted result (attempt_submissions facts (state_at bytes phase)) old
    new
asked_in result facts phase entry rest earlier stage number files old new is number_is files_is
    asked = λ bytes.
    let same : submissions_for_files number 0 files (piece_states bytes stage)
    ≡ attempt_submissions facts (state_at bytes phase) =
    ap (λ n. submissions_for_files n 0 files (piece_states bytes stage)) number_is
    ∙ ap (λ (fs : List ℕ). submissions_for_files (length earlier) 0 fs (piece_states bytes stage))
    files_is
    ∙ sym (ap (λ (p : PhaseFacts). attempt_submissions facts (state_at bytes p)) is) in
    subst (λ (l : List HistoryItem). AreSubmitted result l old new) same (asked bytes)
