-- The cells after a move, and the frames that they hold.
use Rattle.std.proofs.Common.{◌≡◌, ◌≢◌, ℕ, ◌+◌, ◌-◌, ◌<◌, ◌⊎◌, List, length, get_or, set, true}
use Rattle.std.proofs.Common.{false, cond, Some, None, arith, refl, sym, ap, ◌∙◌, inl, inr}
use Rattle.std.specs.List.{count_by}
use Rattle.std.proofs.lemmas.Bool.{cases_eq}
use Rattle.std.proofs.lemmas.List.{get_or-set_same, get_or-set_other, length-set}
use Rattle.std.proofs.lemmas.List.Sums.{sum_by-set}
use Rattle.bl_stage.specs.declared.cell.Cell.{Cell}
use Rattle.bl_stage.specs.internal.Cells.{is_held_cell, cell_at, AreHeld}

abbrev pub left_cell : Cell
left_cell = record { holder = None; shut = true }

abbrev pub taken_cell : ℕ → Cell
taken_cell slot = record { holder = Some slot; shut = false }

-- the cells after a move
abbrev pub moved_cells : List Cell → ℕ → ℕ → ℕ → List Cell
moved_cells cells from to slot = set (set cells from left_cell) to (taken_cell slot)

module _ (cells : List Cell) (from to slot : ℕ) where
  abbrev pub after : List Cell
  after = moved_cells cells from to slot

  pub after_length : length after ≡ length cells
  after_length =
      length-set (set cells from left_cell) to (taken_cell slot) ∙ length-set cells from left_cell

module _ (base : ℕ) (frames : List ℕ) (to slot : ℕ) where
  abbrev pub now : List ℕ
  now = set frames slot (base + to)

  pub now_other : (k : ℕ) → k ≢ slot → get_or now k 0 ≡ get_or frames k 0
  now_other k other = get_or-set_other frames slot k (base + to) 0 other

  pub now_length : length now ≡ length frames
  now_length = length-set frames slot (base + to)

module _ (base : ℕ) (frames : List ℕ) (cells : List Cell) (from to slot : ℕ)
    (held : AreHeld base frames cells) (from_in : from < length cells) (to_in : to < length cells)
    (goes : (cell_at cells from).holder ≡ Some slot) (shut : (cell_at cells from).shut ≡ true)
    (free : (cell_at cells to).holder ≡ None) (open_ : (cell_at cells to).shut ≡ false) where
  pub apart : from ≢ to
  apart e =
      let both : Some slot ≡ None = sym goes ∙ ap (λ j. (cell_at cells j).holder) e ∙ free in cc

  slot_in : slot < length frames
  slot_in = held.within from slot goes

  pub at_slot : get_or frames slot 0 ≡ base + from
  at_slot = held.back from slot goes

  at_to : cell_at (after cells from to slot) to ≡ taken_cell slot
  at_to =
      get_or-set_same (set cells from left_cell) to (taken_cell slot)
      _ (omega (arith, length-set cells from left_cell))

  at_from : cell_at (after cells from to slot) from ≡ left_cell
  at_from =
      get_or-set_other (set cells from left_cell) to from (taken_cell slot) _ apart
      ∙ get_or-set_same cells from left_cell _ from_in

  at_other : (j : ℕ) → j ≢ from → j ≢ to → cell_at (after cells from to slot) j ≡ cell_at cells j
  at_other j not_from not_to =
      get_or-set_other (set cells from left_cell) to j (taken_cell slot) _ not_to
      ∙ get_or-set_other cells from j left_cell _ not_from

  pub now_slot : get_or (now base frames to slot) slot 0 ≡ base + to
  now_slot = get_or-set_same frames slot (base + to) 0 slot_in

  -- the frame of another slot is neither of the two
  not_from : (k : ℕ) → k < length frames → k ≢ slot → get_or frames k 0 - base ≢ from
  not_from k h other e =
      let same : Some k ≡ Some slot =
      sym (held.each k h) ∙ ap (λ j. (cell_at cells j).holder) e ∙ goes in other (cc)

  pub not_to : (k : ℕ) → k < length frames → get_or frames k 0 - base ≢ to
  not_to k h e =
      let same : Some k ≡ None =
      sym (held.each k h) ∙ ap (λ j. (cell_at cells j).holder) e ∙ free in cc

  count_after : count_by is_held_cell (after cells from to slot) ≡ length frames
  count_after =
      let first =
      sum_by-set (λ c. cond {A = ℕ} (is_held_cell c) 1 0) cells from left_cell
      (record { holder = None; shut = false }) from_in in
      let second =
      sum_by-set (λ c. cond {A = ℕ} (is_held_cell c) 1 0) (set cells from left_cell) to
      (taken_cell slot) (record { holder = None; shut = false })
      (omega (arith, length-set cells from left_cell)) in
      let one : cond {A = ℕ} (is_held_cell (cell_at cells from)) 1 0 ≡ 1 = rw goes refl in
      let none : cond {A = ℕ} (is_held_cell (cell_at (set cells from left_cell) to)) 1 0 ≡ 0 =
      rw (
        get_or-set_other cells from to left_cell (record { holder = None; shut = false })
            (λ e. apart (sym e)),
        free,
      ) refl in
      omega (arith, first, second, one, none, held.count)

  -- who holds a cell after the move
  held_by : (j k : ℕ) → (cell_at (after cells from to slot) j).holder ≡ Some k
      → ((j ≡ to) × (k ≡ slot)) ⊎ ((j ≢ to) × (k ≢ slot) × (cell_at cells j).holder ≡ Some k)
  held_by j k is =
      elim (cases_eq j to) [
        | inl same ↦
            let e : Some slot ≡ Some k =
            ap (λ c. c.holder) (sym at_to)
            ∙ ap (λ i. (cell_at (after cells from to slot) i).holder) (sym same)
            ∙ is in inl (same, cc)
        | inr other ↦ elim (cases_eq j from) [
          | inl same ↦
              let e : None ≡ Some k =
              ap (λ c. c.holder) (sym at_from)
              ∙ ap (λ i. (cell_at (after cells from to slot) i).holder) (sym same)
              ∙ is in absurd (cc)
          | inr neither ↦
              let was : (cell_at cells j).holder ≡ Some k =
              ap (λ c. c.holder) (sym (at_other j neither other)) ∙ is in
              inr (
                other,
                (λ e.
                    let here : base + from ≡ base + j =
                    sym at_slot ∙ ap (λ i. get_or frames i 0) (sym e) ∙ held.back j k was in
                    neither (omega arith)),
                was,
              )
        ]
      ]

  pub still_held : AreHeld base (now base frames to slot) (after cells from to slot)
  still_held = record {
    low = λ k h. elim (cases_eq k slot) [
      | inl same ↦ rw (same, now_slot) (omega arith)
      | inr other ↦
          rw (now_other base frames to slot k other)
          (held.low k (omega (arith, now_length base frames to slot)))
    ];
    high = λ k h. elim (cases_eq k slot) [
      | inl same ↦ rw (same, now_slot, after_length cells from to slot) (omega arith)
      | inr other ↦
          rw (now_other base frames to slot k other, after_length cells from to slot)
          (held.high k (omega (arith, now_length base frames to slot)))
    ];
    each = λ k h. elim (cases_eq k slot) [
      | inl same ↦ let e : base + to - base ≡ to = omega arith in rw (same, now_slot, e, at_to) refl
      | inr other ↦ let h2 : k < length frames = omega (arith, now_length base frames to slot) in
          rw (
            now_other base frames to slot k other,
            at_other (get_or frames k 0 - base) (not_from k h2 other) (not_to k h2),
          )
          (held.each k h2)
    ];
    within = λ j k is. elim (held_by j k is) [
      | inl new ↦ let s = slot_in in omega (arith, now_length base frames to slot, new.1)
      | inr old ↦ let s = held.within j k old.2 in omega (arith, now_length base frames to slot)
    ];
    back = λ j k is. elim (held_by j k is) [
      | inl new ↦ rw (new.1, now_slot, new.0) refl
      | inr old ↦ now_other base frames to slot k old.1 ∙ held.back j k old.2
    ];
    count = count_after ∙ sym (now_length base frames to slot);
  }

  -- what was shut is
  pub shut_after : (j : ℕ) → (cell_at (after cells from to slot) j).shut ≡ (cell_at cells j).shut
  shut_after j =
      elim (cases_eq j to) [
        | inl same ↦ rw (same, at_to) (sym open_)
        | inr other ↦ elim (cases_eq j from) [
          | inl same ↦ rw (same, at_from) (sym shut)
          | inr neither ↦ ap (λ c. c.shut) (at_other j neither other)
        ]
      ]

  -- what was left up to `from` is left up to the next
  pub left_after : ((j : ℕ) → j < from → (cell_at cells j).shut ≡ true
      → (cell_at cells j).holder ≡ None) → (j : ℕ) → j < from + 1
      → (cell_at (after cells from to slot) j).shut ≡ true
      → (cell_at (after cells from to slot) j).holder ≡ None
  left_after before j h is =
      elim (cases_eq j to) [
        | inl same ↦
            let e : false ≡ true =
            ap (λ c. c.shut) (sym at_to)
            ∙ ap (λ i. (cell_at (after cells from to slot) i).shut) (sym same) ∙ is in
            absurd (cc)
        | inr other ↦ elim (cases_eq j from) [
          | inl same ↦ rw (same, at_from) refl
          | inr neither ↦
              rw (at_other j neither other) (before j (omega arith) (sym (shut_after j) ∙ is))
        ]
      ]
