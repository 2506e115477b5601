-- How a walk by page tables ends.
use Rattle.std.proofs.Common.{◌≡◌, ◌∙◌, ℕ, List, Option, None, Some, refl, sym, ap}
use Rattle.bl_params.specs.Translation.{index_at, table_entry_at, frame_in_word, in_page}
use Rattle.bl_params.specs.Translation.{next_frame}
use Rattle.bl_params.specs.Translation.{page_walk}

module _ (tables : List ℕ) (base a : ℕ) where
  -- the frame that a word leads to is the next one
  pub next_is : (bit frame word : ℕ) (r : Option ℕ) → word
      ≡ table_entry_at tables frame (index_at bit a)
      → r ≡ frame_in_word base word → next_frame tables base a bit frame ≡ r
  next_is bit frame word r e f = ap (frame_in_word base) (sym e) ∙ sym f

  pub walked_none_4 : next_frame tables base a 39 0 ≡ None → page_walk tables base a ≡ None
  unfolding page_walk
  walked_none_4 first = rw first refl

  pub walked_none_3 : (pointers : ℕ) → next_frame tables base a 39 0 ≡ Some pointers
      → next_frame tables base a 30 pointers ≡ None → page_walk tables base a ≡ None
  unfolding page_walk
  walked_none_3 pointers first second = rw first (rw second refl)

  pub walked_page : (pointers directory word : ℕ) (r : Option ℕ)
      → next_frame tables base a 39 0 ≡ Some pointers
      → next_frame tables base a 30 pointers ≡ Some directory
      → word ≡ table_entry_at tables directory (index_at 21 a)
      → r ≡ in_page a word → page_walk tables base a ≡ r
  unfolding page_walk
  walked_page pointers directory word r first second e f =
      rw first (rw second (ap (in_page a) (sym e) ∙ sym f))
