-- A stage's files at first, and if each piece of them came.
use Rattle.std.proofs.Common.{◌≡◌, ℕ, zero, suc, ◌+◌, ◌-◌, ◌<◌, ◌≤◌, ◌&&◌, Bool, true, false, not}
use Rattle.std.proofs.Common.{List, [], ◌∷◌, length, map, take, get_or, arith, refl, sym, ap, ◌∙◌}
use Rattle.std.proofs.Common.{inl, inr}
use Rattle.std.specs.List.{list_all, range_with_len}
use Rattle.std.specs.declared.ops.Range.{Range}
use Rattle.std.proofs.lemmas.Bool.{cases_lt}
use Rattle.std.proofs.lemmas.List.{get_or_default, get_or-map, length-map, ext_get_or}
use Rattle.std.proofs.lemmas.List.Sums.{sum_by-cons}
use Rattle.std.proofs.lemmas.List.FromFn.{length-map-range_with_len, get_or-map-range_with_len}
use Rattle.bl_map.specs.PoolFrames.{frames_of, frames_for}
use Rattle.bl_stage.specs.Staged.{Staging, AreStaged, AllCame, staged_file, staged_texts}
use Rattle.bl_stage.specs.Staged.{empty_stage}
use Rattle.bl_stage.specs.Staged.{frames_before}
use Rattle.bl_stage.specs.Pieces.{slot_in}
use Rattle.bl_stage.specs.PieceStates as stage
use Rattle.bl_stage.specs.PieceStates.{PieceState, piece_states, piece_states_of, piece_state_at}
use Rattle.bl_stage.specs.PieceStates.{piece_of, waiting_pieces, came_bytes}
use Rattle.bl_stage.specs.internal.FileSetLaws.{same_firsts}
use Rattle.bl_stage.proofs.FileLemmas.{file_within}
use Rattle.bl_stage.proofs.PieceStateLaws.{complete_piece_states, fresh_piece_states}
use Rattle.bl_session.specs.attempt.AwaitedPieces.{is_awaited, are_whole, waiting_files}

-- ---- at first

each_size : (sizes : List ℕ)
    → map (λ file. waiting_pieces (get_or sizes file 0)) (range_with_len 0 (length sizes))
    ≡ waiting_files sizes
each_size sizes =
    let d : List PieceState = [] in
    let f : ℕ → List PieceState = λ file. waiting_pieces (get_or sizes file 0) in
    let long = length-map-range_with_len f 0 (length sizes) in
    ext_get_or d _ _ (long ∙ sym (length-map sizes waiting_pieces)) (λ k h.
    get_or-map-range_with_len f 0 (length sizes) k k d (omega arith) (omega arith)
    ∙ sym (get_or-map waiting_pieces sizes k 0 d (omega arith)))

pub first_awaited : (bytes : List ℕ) (pool : Range ℕ) (sizes frames : List ℕ)
    → piece_states bytes (empty_stage pool sizes frames) ≡ waiting_files sizes
first_awaited bytes pool sizes frames = fresh_piece_states bytes pool sizes frames ∙ each_size sizes

-- ---- each came

all_from : {X : Type 0} (p : X → Bool) (f : ℕ → X) (start count : ℕ)
    → ((i : ℕ) → start ≤ i → i < start + count → p (f i) ≡ true)
    → list_all p (map f (range_with_len start count)) ≡ true
all_from p f start zero h = refl
all_from p f start (suc count) h =
    rw (h start (omega arith) (omega arith))
    (all_from p f (start + 1) count (λ i l u. h i (omega arith) (omega arith)))

both : (a b : Bool) → (a && b) ≡ true → (a ≡ true) × (b ≡ true)
both true b e = (refl, e)
both false b e = absurd cc

all_at : {X : Type 0} (p : X → Bool) (f : ℕ → X) (start count i : ℕ)
    → list_all p (map f (range_with_len start count)) ≡ true → start ≤ i → i < start + count
    → p (f i) ≡ true
all_at p f start zero i e l u = absurd (omega arith)
all_at p f start (suc count) i e l u =
    let parts = both (p (f start)) (list_all p (map f (range_with_len (start + 1) count))) e in
    elim (cases_lt start i) [
      | inl later ↦ all_at p f (start + 1) count i parts.1 (omega arith) (omega arith)
      | inr first ↦ let same : i ≡ start = omega arith in rw same parts.0
    ]

-- each place in the list of all frames is that of a piece
find_piece : (sizes : List ℕ) (k : ℕ) → k < frames_for sizes
    → (file : ℕ) × (index : ℕ) × (file < length sizes) × (index < frames_of (get_or sizes file 0))
    × (frames_before sizes file + index ≡ k)
find_piece [] k h = absurd (omega arith)
find_piece (size ∷ sizes) k h =
    let all = sum_by-cons frames_of size sizes in
    elim (cases_lt k (frames_of size)) [
      | inl here ↦ (0, k, omega arith, here, omega arith)
      | inr behind ↦
          let found = find_piece sizes (k - frames_of size) (omega arith) in
          let before = sum_by-cons frames_of size (take found.0 sizes) in
          let named = found.2 in
          let is = found.4 in
          (suc found.0, found.1, omega arith, found.3, omega arith)
    ]

came_slot : (stage : Staging) (file index : ℕ) → AreStaged stage → AllCame stage
    → file < length stage.sizes → index < frames_of (get_or stage.sizes file 0)
    → get_or stage.came (slot_in stage file index) false ≡ true
came_slot stage file index kept came h i =
    let within = file_within stage.sizes file h in
    let all = kept.all in
    let flags = kept.flags in
    came (slot_in stage file index) false (omega arith)

pub came_whole : (bytes : List ℕ) (stage : Staging) → AreStaged stage → AllCame stage
    → are_whole (piece_states bytes stage) ≡ true
came_whole bytes stage kept came =
    let q : PieceState → Bool = λ piece_state. not (is_awaited piece_state) in
    all_from (λ (s : List PieceState). list_all q s) (λ file. piece_states_of bytes stage file) 0
    (length stage.sizes) (λ file l h.
    all_from q (λ k. piece_state_at bytes stage file k) 0 (frames_of (get_or stage.sizes file 0))
    (λ k m i.
    rw (came_slot stage file k kept came (omega arith) (omega arith)) refl))

flag_of : (came : Bool) (piece : List ℕ) → not (is_awaited (stage.piece_state_if_came came piece))
    ≡ true
    → came ≡ true
flag_of true piece e = refl
flag_of false piece e = absurd cc

pub whole_came : (bytes : List ℕ) (stage : Staging) → AreStaged stage
    → are_whole (piece_states bytes stage) ≡ true → AllCame stage
whole_came bytes stage kept whole = λ k d h.
    let q : PieceState → Bool = λ piece_state. not (is_awaited piece_state) in
    let all = kept.all in
    let flags = kept.flags in
    let found = find_piece stage.sizes k (omega arith) in
    let named = found.2 in
    let within = found.3 in
    let of_file =
    all_at (λ (s : List PieceState). list_all q s) (λ file. piece_states_of bytes stage file) 0
    (length stage.sizes) found.0 whole (omega arith) (omega arith) in
    let of_piece =
    all_at q (λ i. piece_state_at bytes stage found.0 i) 0
    (frames_of (get_or stage.sizes found.0 0))
    found.1 of_file (omega arith) (omega arith) in
    let came =
    flag_of (get_or stage.came (slot_in stage found.0 found.1) false)
    (piece_of (staged_file bytes stage found.0) found.1) of_piece in
    get_or_default stage.came k d false h ∙ ap (λ n. get_or stage.came n false) (sym found.4) ∙ came

-- ---- the files' bytes

map_after : {X Y Z : Type 0} (g : Y → Z) (f : X → Y) (xs : List X)
    → map g (map f xs) ≡ map (λ x. g (f x)) xs
map_after g f [] = refl
map_after g f (x ∷ xs) = ap (λ rest. g (f x) ∷ rest) (map_after g f xs)

pub whole_texts : (bytes : List ℕ) (stage : Staging) → AreStaged stage → AllCame stage
    → map came_bytes (piece_states bytes stage) ≡ staged_texts bytes stage
whole_texts bytes stage kept came =
    let d : List ℕ = [] in
    map_after came_bytes (λ file. piece_states_of bytes stage file)
    (range_with_len 0 (length stage.sizes))
    ∙ same_firsts d (λ file. came_bytes (piece_states_of bytes stage file))
    (λ file. staged_file bytes stage file) (length stage.sizes)
    (λ file h. complete_piece_states bytes stage file kept came h)
