-- The states of files' pieces, after one came and after frames moved.
use Rattle.std.proofs.Common.{◌≡◌, ◌≢◌, ℕ, ◌+◌, ◌-◌, ◌*◌, ◌<◌, ◌≤◌, List, [], length, get_or, set}
use Rattle.std.proofs.Common.{drop, min, map, true, false, arith, refl, sym, ap, ◌∙◌, inl, inr}
use Rattle.std.specs.List.{range_with_len}
use Rattle.std.proofs.lemmas.Bool.{cases_eq, cases_lt}
use Rattle.std.proofs.lemmas.Bool.Decides.{nat_tests}
use Rattle.std.proofs.lemmas.List.{same_lists, ext_get_or, get_or-set_same, get_or-set_other}
use Rattle.std.proofs.lemmas.List.{length-set, length-take, length-drop, get_or-take, get_or-drop}
use Rattle.std.proofs.lemmas.List.FromFn.{length-map-range_with_len, get_or-map-range_with_len}
use Rattle.bl_map.specs.PoolFrames.{frames_of}
use Rattle.bl_mem.specs.Memory.{overwrite}
use Rattle.bl_mem.proofs.Overwrites.{length-overwrite, get_or-overwrite_in, get_or-overwrite_below}
use Rattle.bl_mem.proofs.Overwrites.{get_or-overwrite_above}
use Rattle.bl_stage.specs.Staged.{Staging, AreStaged, staged_file, frames_of_file, with_frames}
use Rattle.bl_stage.specs.Pieces.{is_piece, slot_in, stage_with}
use Rattle.bl_stage.specs.internal.FileSetLaws.{same_firsts}
use Rattle.bl_stage.specs.PieceStates.{PieceState, has, piece_state_if_came, piece_state_at}
use Rattle.bl_stage.specs.PieceStates.{piece_states_of, piece_states, piece_of}
use Rattle.bl_stage.specs.PieceStates.{piece_states_after_put}
use Rattle.bl_stage.proofs.FrameLemmas.{staged_length}
use Rattle.bl_stage.proofs.FileLemmas.{file_within, file_before}
use Rattle.bl_stage.proofs.PieceLemmas.{IsPiece, piece_is}

-- functions that differ at one number have lists of values that differ in that place
pub one_changed : {X : Type 0} (d : X) (f g : ℕ → X) (n k : ℕ) (x : X) → k < n → g k ≡ x
    → ((a : ℕ) → a < n → a ≢ k → g a ≡ f a)
    → map g (range_with_len 0 n) ≡ set (map f (range_with_len 0 n)) k x
one_changed d f g n k x h here others =
    let old = map f (range_with_len 0 n) in
    let long = length-map-range_with_len f 0 n in
    ext_get_or d _ _ (length-map-range_with_len g 0 n ∙ sym (length-set old k x ∙ long))
    (λ a within.
    let below : a < n = let e = length-map-range_with_len g 0 n in omega arith in
    get_or-map-range_with_len g 0 n a a d below (omega arith) ∙ elim (cases_eq a k) [
      | inl same ↦ rw same (here ∙ sym (get_or-set_same old k x d (omega arith)))
      | inr other ↦
          others a below other
          ∙ sym
          (get_or-set_other old k a x d other
          ∙ get_or-map-range_with_len f 0 n a a d below (omega arith))
    ])

-- the length of a piece
pub piece_size : (stage : Staging) (file index len : ℕ) → is_piece stage file index len ≡ true
    → len ≡ min (get_or stage.sizes file 0 - 4096 * index) 4096
piece_size stage file index len h = grind (arith, nat_tests)

-- different pieces have different places
pub other_slot : (stage : Staging) (f g i j : ℕ) → f < length stage.sizes → g < length stage.sizes
    → f ≢ g → i < frames_of (get_or stage.sizes f 0) → j < frames_of (get_or stage.sizes g 0)
    → slot_in stage f i ≢ slot_in stage g j
other_slot stage f g i j hf hg differ hi hj e =
    elim (cases_lt f g) [
      | inl before ↦ let b = file_before stage.sizes f g before hg in omega arith
      | inr not_before ↦ let b = file_before stage.sizes g f (omega arith) hf in omega arith
    ]

-- the length of a piece and its bytes, in its file
pub piece_long : (file : List ℕ) (k : ℕ)
    → length (piece_of file k) ≡ min 4096 (length file - 4096 * k)
piece_long file k =
    length-take 4096 (drop (4096 * k) file) ∙ ap (min 4096) (length-drop (4096 * k) file)

piece_read : (file : List ℕ) (k j d : ℕ) → j < 4096
    → get_or (piece_of file k) j d ≡ get_or file (4096 * k + j) d
piece_read file k j d h =
    get_or-take 4096 (drop (4096 * k) file) j d h ∙ get_or-drop (4096 * k) file j d

-- a piece that was put down is read again, and the others are as before
module _ (file piece : List ℕ) (index : ℕ) (inside : 4096 * index + length piece ≤ length file)
    (size : length piece ≡ min (length file - 4096 * index) 4096) where
  after : List ℕ
  after = overwrite file (4096 * index) piece

  after_long : length after ≡ length file
  unfolding after
  after_long = length-overwrite file (4096 * index) piece inside

  piece_here : piece_of (overwrite file (4096 * index) piece) index ≡ piece
  unfolding after
  piece_here = same_lists _ _ (omega (arith, piece_long after index, after_long)) (λ k d h.
      let l = piece_long after index in
      let m = after_long in
      let back : 4096 * index + k - 4096 * index ≡ k = omega arith in
      piece_read after index k d (omega arith)
      ∙ get_or-overwrite_in file (4096 * index) piece (4096 * index + k) d (omega arith)
      (omega arith) inside ∙ ap (λ j. get_or piece j d) back)

  piece_there : (k : ℕ) → k ≢ index
      → piece_of (overwrite file (4096 * index) piece) k ≡ piece_of file k
  unfolding after
  piece_there k other =
      same_lists _ _ (omega (arith, piece_long after k, piece_long file k, after_long)) (λ j d h.
      let l = piece_long after k in
      let m = after_long in
      piece_read after k j d (omega arith) ∙ elim (cases_lt k index) [
        | inl before ↦
            get_or-overwrite_below file (4096 * index) piece (4096 * k + j) d (omega arith) inside
        | inr behind ↦
            get_or-overwrite_above file (4096 * index) piece (4096 * k + j) d (omega arith) inside
      ] ∙ sym (piece_read file k j d (omega arith)))

module _ (stage : Staging) (old new piece : List ℕ) (file index : ℕ) (staged_ : AreStaged stage)
    (test : is_piece stage file index (length piece) ≡ true)
    (in_file : staged_file new (stage_with stage file index) file
    ≡ overwrite (staged_file old stage file) (4096 * index) piece)
    (in_others : (other : ℕ) → other < length stage.sizes → other ≢ file
    → staged_file new (stage_with stage file index) other ≡ staged_file old stage other) where
  abbrev now : Staging
  now = stage_with stage file index

  is : IsPiece stage file index (length piece)
  is = piece_is stage file index (length piece) test

  long : length (staged_file old stage file) ≡ get_or stage.sizes file 0
  long = staged_length old (frames_of_file stage file) (get_or stage.sizes file 0)

  room : 4096 * index + length piece ≤ length (staged_file old stage file)
  room = let i = is.inside in omega (arith, long)

  size : length piece ≡ min (length (staged_file old stage file) - 4096 * index) 4096
  size = rw long (piece_size stage file index (length piece) test)

  -- the state of the piece has its bytes
  piece_state_here : piece_state_at new now file index ≡ has piece
  piece_state_here =
      let w = file_within stage.sizes file is.named in
      let i = is.within in
      let a = staged_.all in
      let b = staged_.flags in
      let came : get_or now.came (slot_in now file index) false ≡ true =
      get_or-set_same stage.came (slot_in stage file index) true false (omega arith) in
      rw (came, in_file) (ap has (piece_here (staged_file old stage file) piece index room size))

  -- each other piece of its file is as before
  piece_state_there : (k : ℕ) → k ≢ index
      → piece_state_at new now file k ≡ piece_state_at old stage file k
  piece_state_there k other =
      let came : get_or now.came (slot_in now file k) false
      ≡ get_or stage.came (slot_in stage file k) false =
      get_or-set_other stage.came (slot_in stage file index) (slot_in stage file k) true
      false (λ e. other (omega arith)) in
      rw (came, in_file)
      (ap (piece_state_if_came (get_or stage.came (slot_in stage file k) false))
      (piece_there (staged_file old stage file) piece index room size k other))

  -- and so is each piece of the other files
  piece_state_else : (f k : ℕ) → f < length stage.sizes → f ≢ file
      → k < frames_of (get_or stage.sizes f 0)
      → piece_state_at new now f k ≡ piece_state_at old stage f k
  piece_state_else f k h other hk =
      let came : get_or now.came (slot_in now f k) false
      ≡ get_or stage.came (slot_in stage f k) false =
      get_or-set_other stage.came (slot_in stage file index) (slot_in stage f k) true false
      (other_slot stage f file k index h is.named other hk is.within) in
      rw (came, in_others f h other) refl

  pub piece_states_put : piece_states new (stage_with stage file index)
      ≡ piece_states_after_put old stage file index piece
  piece_states_put =
      let d : List PieceState = [] in
      one_changed d (λ f. piece_states_of old stage f) (λ f. piece_states_of new now f)
      (length stage.sizes) file
      (set (piece_states_of old stage file) index (has piece)) is.named
      (one_changed (has []) (λ k. piece_state_at old stage file k)
      (λ k. piece_state_at new now file k)
      (frames_of (get_or stage.sizes file 0)) index (has piece) is.within piece_state_here
      (λ k h other. piece_state_there k other))
      (λ f h other.
      same_firsts (has []) (λ k. piece_state_at new now f k) (λ k. piece_state_at old stage f k)
      (frames_of (get_or stage.sizes f 0)) (λ k hk. piece_state_else f k h other hk))

-- files that read as before have the piece states that they had
pub piece_states_same : (stage : Staging) (frames old new : List ℕ)
    → ((file : ℕ) → file < length stage.sizes
    → staged_file new (with_frames stage frames) file ≡ staged_file old stage file)
    → piece_states new (with_frames stage frames) ≡ piece_states old stage
piece_states_same stage frames old new same =
    let d : List PieceState = [] in
    same_firsts d (λ f. piece_states_of new (with_frames stage frames) f)
    (λ f. piece_states_of old stage f)
    (length stage.sizes)
    (λ f h.
    same_firsts (has []) (λ k. piece_state_at new (with_frames stage frames) f k)
    (λ k. piece_state_at old stage f k) (frames_of (get_or stage.sizes f 0))
    (λ k hk. rw (same f h) refl))
