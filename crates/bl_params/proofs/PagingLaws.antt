-- Page tables translate each address below 2^32 to itself, and no other.
use Rattle.std.proofs.Common.{◌≡◌, ◌∙◌, ◌<◌, ◌≤◌, ◌+◌, ◌-◌, ◌*◌, ◌/◌, ◌%◌, ◌^◌, ℕ, zero, suc, List}
use Rattle.std.proofs.Common.{None, Some, length, slice_index, arith, refl, sym, ap, ⊎_elim}
use Rattle.std.proofs.lemmas.Bool.{cases_lt}
use Rattle.std.proofs.lemmas.Bool.Decides.{nat_tests}
use Rattle.bl_params.specs.FieldBytes.{number_bytes}
use Rattle.bl_params.specs.Paging.{next_table_word, page_word, paging_word, paging}
use Rattle.bl_params.specs.Translation.{index_at, table_entry_at, frame_in_word, in_page}
use Rattle.bl_params.specs.Translation.{next_frame}
use Rattle.bl_params.specs.Translation.{page_walk}
use Rattle.bl_params.specs.Translation.{translation}
use Rattle.bl_params.proofs.EntriesTold.{number_told}
use Rattle.bl_params.proofs.PagingLemmas.{length-paging, tables_byte, frame_byte}
use Rattle.bl_params.proofs.TranslationLemmas.{next_is, walked_none_4, walked_none_3, walked_page}

-- ---- the words of the tables

first_word : (base index : ℕ) → index ≡ 0 → paging_word base 0 index ≡ next_table_word base 1
unfolding paging_word
first_word base index e = rw e refl

no_first : (base index : ℕ) → 0 < index → paging_word base 0 index ≡ 0
unfolding paging_word
no_first base index e = grind (arith, nat_tests)

pointer_word : (base index : ℕ) → index < 4
    → paging_word base 1 index ≡ next_table_word base (2 + index)
unfolding paging_word
pointer_word base index e = grind (arith, nat_tests)

no_pointer : (base index : ℕ) → 4 ≤ index → paging_word base 1 index ≡ 0
unfolding paging_word
no_pointer base index e = grind (arith, nat_tests)

last_word : (base frame index : ℕ) → 2 ≤ frame
    → paging_word base frame index ≡ page_word (512 * (frame - 2) + index)
unfolding paging_word
last_word base frame index e = grind (arith, nat_tests)

-- a word of the tables is read as it was made
word_read : (base i j w : ℕ) → i < 6 → j < 512 → paging_word base i j ≡ w → w < 2 ^ 64
    → w ≡ table_entry_at (paging base) i j
word_read base i j w frame index is fits =
    sym
    (number_told 8 (0x1000 * i + 8 * j) w (paging base) (omega arith) (λ k from below.
    let at : k - 4096 * i - 8 * j ≡ k - (0x1000 * i + 8 * j) = omega arith in
    tables_byte base i k frame (omega arith) (omega arith)
    ∙ frame_byte base i j (k - 4096 * i) index (omega arith) (omega arith)
    ∙ ap (λ (x : ℕ). slice_index (number_bytes 8 x) (k - 4096 * i - 8 * j)) is
    ∙ ap (λ (x : ℕ). slice_index (number_bytes 8 w) x) at))

-- ---- what the words lead to

found_1 : (base word : ℕ) → word ≡ next_table_word base 1 → Some 1 ≡ frame_in_word base word
unfolding frame_in_word
found_1 base word e = grind (arith, nat_tests)

found_2 : (base word : ℕ) → word ≡ next_table_word base 2 → Some 2 ≡ frame_in_word base word
unfolding frame_in_word
found_2 base word e = grind (arith, nat_tests)

found_3 : (base word : ℕ) → word ≡ next_table_word base 3 → Some 3 ≡ frame_in_word base word
unfolding frame_in_word
found_3 base word e = grind (arith, nat_tests)

found_4 : (base word : ℕ) → word ≡ next_table_word base 4 → Some 4 ≡ frame_in_word base word
unfolding frame_in_word
found_4 base word e = grind (arith, nat_tests)

found_5 : (base word : ℕ) → word ≡ next_table_word base 5 → Some 5 ≡ frame_in_word base word
unfolding frame_in_word
found_5 base word e = grind (arith, nat_tests)

found : (base k : ℕ) → k < 4 → Some (2 + k) ≡ frame_in_word base (next_table_word base (2 + k))
found base zero within = found_2 base (next_table_word base 2) refl
found base (suc zero) within = found_3 base (next_table_word base 3) refl
found base (suc (suc zero)) within = found_4 base (next_table_word base 4) refl
found base (suc (suc (suc zero))) within = found_5 base (next_table_word base 5) refl
found base (suc (suc (suc (suc k)))) within = absurd (omega arith)

none_found : (base : ℕ) → None ≡ frame_in_word base 0
unfolding frame_in_word
none_found base = grind (arith, nat_tests)

page_found : (a n : ℕ) → Some (n * 0x200000 + a % 0x200000) ≡ in_page a (page_word n)
unfolding in_page
page_found a n =
    let low : (n * 0x200000 + 0x83) % 0x200000 ≡ 0x83 = omega arith in
    let page : (n * 0x200000 + 0x83) / 0x200000 ≡ n = omega arith in
    rw (low, page) refl

same_address : (a : ℕ) → a < 2 ^ 32
    → (512 * (a / 2 ^ 30 % 512) + a / 2 ^ 21 % 512) * 0x200000 + a % 0x200000 ≡ a
same_address a small = omega arith

-- ---- the walk

translated : (tables : List ℕ) (base a : ℕ) → length tables ≡ 0x6000 → a < 2 ^ 48
    → translation tables base a ≡ page_walk tables base a
unfolding translation
translated tables base a long small = grind (arith, nat_tests)

untranslated : (tables : List ℕ) (base a : ℕ) → 2 ^ 48 ≤ a → translation tables base a ≡ None
unfolding translation
untranslated tables base a large = grind (arith, nat_tests)

module _ (base a : ℕ) (low : base + 0x6000 ≤ 2 ^ 32) where
  to_pointers : a < 2 ^ 39 → next_frame (paging base) base a 39 0 ≡ Some 1
  to_pointers small =
      let index : index_at 39 a ≡ 0 = omega arith in
      next_is (paging base) base a 39 0 (next_table_word base 1) (Some 1)
      (word_read base 0 (index_at 39 a) (next_table_word base 1) (omega arith) (omega arith)
      (first_word base (index_at 39 a) index) (omega arith))
      (found_1 base (next_table_word base 1) refl)

  to_directory : a < 2 ^ 32
      → next_frame (paging base) base a 30 1 ≡ Some (2 + index_at 30 a)
  to_directory small =
      let index : index_at 30 a < 4 = omega arith in
      next_is (paging base) base a 30 1 (next_table_word base (2 + index_at 30 a))
      (Some (2 + index_at 30 a))
      (word_read base 1 (index_at 30 a) (next_table_word base (2 + index_at 30 a)) (omega arith)
      (omega arith) (pointer_word base (index_at 30 a) index) (omega arith))
      (found base (index_at 30 a) index)

  to_page : a < 2 ^ 32
      → page_word (512 * index_at 30 a + index_at 21 a)
      ≡ table_entry_at (paging base) (2 + index_at 30 a) (index_at 21 a)
  to_page small =
      let index : index_at 30 a < 4 = omega arith in
      let within : index_at 21 a < 512 = omega arith in
      let directory : 2 + index_at 30 a - 2 ≡ index_at 30 a = omega arith in
      word_read base (2 + index_at 30 a) (index_at 21 a)
      (page_word (512 * index_at 30 a + index_at 21 a)) (omega arith) within
      (last_word base (2 + index_at 30 a) (index_at 21 a) (omega arith)
      ∙ ap (λ (x : ℕ). page_word (512 * x + index_at 21 a)) directory)
      (omega arith)

  pub below : a < 2 ^ 32 → translation (paging base) base a ≡ Some a
  below small =
      translated (paging base) base a (length-paging base) (omega arith)
      ∙ walked_page (paging base) base a 1 (2 + index_at 30 a)
      (page_word (512 * index_at 30 a + index_at 21 a)) (Some a)
      (to_pointers (omega arith)) (to_directory small) (to_page small)
      (ap Some (sym (same_address a small))
      ∙ page_found a (512 * index_at 30 a + index_at 21 a))

  nothing_there : (bit frame : ℕ) → frame < 6 → paging_word base frame (index_at bit a) ≡ 0
      → index_at bit a < 512 → next_frame (paging base) base a bit frame ≡ None
  nothing_there bit frame inside is within =
      next_is (paging base) base a bit frame 0 None
      (word_read base frame (index_at bit a) 0 inside within is (omega arith))
      (none_found base)

  walked_above : 2 ^ 32 ≤ a → a < 2 ^ 48 → page_walk (paging base) base a ≡ None
  walked_above large small =
      ⊎_elim
      (λ near.
      walked_none_3 (paging base) base a 1 (to_pointers near)
      (nothing_there 30 1 (omega arith) (no_pointer base (index_at 30 a) (omega arith))
      (omega arith)))
      (λ far.
      walked_none_4 (paging base) base a
      (nothing_there 39 0 (omega arith) (no_first base (index_at 39 a) (omega arith))
      (omega arith)))
      (cases_lt a (2 ^ 39))

  pub above : 2 ^ 32 ≤ a → translation (paging base) base a ≡ None
  above large =
      ⊎_elim
      (λ small.
      translated (paging base) base a (length-paging base) small ∙ walked_above large small)
      (λ far. untranslated (paging base) base a far)
      (cases_lt a (2 ^ 48))
