-- The bytes of page tables, word by word.
use Rattle.std.proofs.Common.{◌≡◌, ◌≤◌, ◌<◌, ◌+◌, ◌-◌, ◌*◌, ℕ, zero, suc, List}
use Rattle.std.proofs.Common.{length, slice_index, arith, refl, sym, ap, ◌∙◌, ⊎_elim}
use Rattle.std.specs.List.{flat_map, range_with_len}
use Rattle.std.proofs.lemmas.Bool.{cases_lt}
use Rattle.std.proofs.lemmas.List.{length-append, get_or_append_left, get_or-append-add, ext_get_or}
use Rattle.bl_params.specs.FieldBytes.{byte_over, number_bytes}
use Rattle.bl_params.specs.Paging.{paging_word, paging_frame, paging}
use Rattle.bl_params.proofs.EntryLemmas.{length-number_bytes}
use Rattle.bl_params.proofs.OverLemmas.{over_in, over_below}

-- where the piece i of pieces of n bytes stands
unfoldable place : ℕ → ℕ → ℕ
place n zero = 0
place n (suc i) = n + place n i

place_8 : (i : ℕ) → place 8 i ≡ 8 * i
unfolding place
place_8 zero = refl
place_8 (suc i) = let before = place_8 i in omega arith

place_4096 : (i : ℕ) → place 4096 i ≡ 4096 * i
unfolding place
place_4096 zero = refl
place_4096 (suc i) = let before = place_4096 i in omega arith

module _ (f : ℕ → List ℕ) (n : ℕ) (long : (x : ℕ) → length (f x) ≡ n) where
  length-pieces : (a m : ℕ) → length (flat_map f (range_with_len a m)) ≡ place n m
  unfolding place
  length-pieces a zero = refl
  length-pieces a (suc m) =
      let first = long a in
      let rest = length-pieces (a + 1) m in
      let both = length-append (f a) (flat_map f (range_with_len (a + 1) m)) in
      omega arith

  piece : (a m i j k b : ℕ) → k ≡ place n i + j → b ≡ a + i → i < m → j < n
      → slice_index (flat_map f (range_with_len a m)) k ≡ slice_index (f b) j
  unfolding place
  piece a zero i j k b at is inside within = absurd (omega arith)
  piece a (suc m) zero j k b at is inside within =
      let e : k ≡ j = omega arith in
      let same : b ≡ a = omega arith in
      let size = long a in
      rw (e, same)
      (get_or_append_left (f a) (flat_map f (range_with_len (a + 1) m)) 0 j (omega arith))
  piece a (suc m) (suc i) j k b at is inside within =
      let size = long a in
      let e : k ≡ length (f a) + (place n i + j) = omega arith in
      rw e
      (get_or-append-add (f a) (flat_map f (range_with_len (a + 1) m)) (place n i + j) 0
      ∙ piece (a + 1) m i j (place n i + j) b refl (omega arith) (omega arith) within)

module _ (base : ℕ) where
  word_long : (frame index : ℕ) → length (number_bytes 8 (paging_word base frame index)) ≡ 8
  word_long frame index = length-number_bytes 8 (paging_word base frame index)

  pub length-paging_frame : (frame : ℕ) → length (paging_frame base frame) ≡ 4096
  unfolding paging_frame
  length-paging_frame frame =
      length-pieces (λ index. number_bytes 8 (paging_word base frame index)) 8 (word_long frame)
      0 512
      ∙ place_8 512

  pub length-paging : length (paging base) ≡ 0x6000
  unfolding paging
  length-paging =
      length-pieces (paging_frame base) 4096 length-paging_frame 0 6 ∙ place_4096 6

  pub frame_byte : (frame i k : ℕ) → i < 512 → 8 * i ≤ k → k < 8 * i + 8
      → slice_index (paging_frame base frame) k
      ≡ slice_index (number_bytes 8 (paging_word base frame i)) (k - 8 * i)
  unfolding paging_frame
  frame_byte frame i k inside from before =
      let at = place_8 i in
      piece (λ index. number_bytes 8 (paging_word base frame index)) 8 (word_long frame)
      0 512 i (k - 8 * i) k i (omega arith) (omega arith) inside (omega arith)

  pub tables_byte : (i k : ℕ) → i < 6 → 4096 * i ≤ k → k < 4096 * i + 4096
      → slice_index (paging base) k ≡ slice_index (paging_frame base i) (k - 4096 * i)
  unfolding paging
  tables_byte i k inside from before =
      let at = place_4096 i in
      piece (paging_frame base) 4096 length-paging_frame
      0 6 i (k - 4096 * i) k i (omega arith) (omega arith) inside (omega arith)

  -- one word more of a frame is written
  pub put_step : (frame i n : ℕ) (old new : List ℕ) → n ≡ paging_word base frame i → i < 512
      → ((k : ℕ) → k < 8 * i → slice_index old k ≡ slice_index (paging_frame base frame) k)
      → ((k : ℕ) → slice_index new k
      ≡ byte_over (8 * i) (number_bytes 8 n) (λ j. slice_index old j) k)
      → (k : ℕ) → k < 8 * (i + 1) → slice_index new k ≡ slice_index (paging_frame base frame) k
  put_step frame i n old new is inside told put k below =
      let size = length-number_bytes 8 n in
      ⊎_elim
      (λ before.
      put k ∙ over_below (8 * i) (number_bytes 8 n) (λ j. slice_index old j) k before
      ∙ told k before)
      (λ from.
      put k ∙ over_in (8 * i) (number_bytes 8 n) (λ j. slice_index old j) k from (omega arith)
      ∙ ap (λ (x : ℕ). slice_index (number_bytes 8 x) (k - 8 * i)) is
      ∙ sym (frame_byte frame i k inside from (omega arith)))
      (cases_lt k (8 * i))

  -- all words of a frame are written
  pub frame_is : (frame : ℕ) (out : List ℕ) → length out ≡ 4096
      → ((k : ℕ) → k < 4096 → slice_index out k ≡ slice_index (paging_frame base frame) k)
      → out ≡ paging_frame base frame
  frame_is frame out long told =
      ext_get_or 0 out (paging_frame base frame) (long ∙ sym (length-paging_frame frame))
      (λ k below. told k (omega arith))
