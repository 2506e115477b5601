-- There are spare frames enough for those that are still to be moved.
use Rattle.std.proofs.Common.{◌≡◌, ℕ, ◌+◌, ◌<◌, ◌≤◌, List, length, set, drop, Bool, true, false}
use Rattle.std.proofs.Common.{cond, Option, Some, None, is_some, not, ◌&&◌, arith, refl, sym, ap}
use Rattle.std.proofs.Common.{◌∙◌}
use Rattle.std.specs.List.{count_by}
use Rattle.std.proofs.lemmas.List.{get_or-set_other, length-set, drop-set-lt}
use Rattle.bl_stage.specs.declared.cell.Cell.{Cell}
use Rattle.bl_stage.specs.internal.Cells.{is_open_cell, is_spare_cell, is_stranded_cell, cell_at}
use Rattle.bl_stage.specs.internal.Cells.{AreHeld}
use Rattle.bl_stage.proofs.CountLemmas.{count-drop-set, count-drop_more, split_count}
use Rattle.bl_stage.proofs.MovedCells.{left_cell, taken_cell, apart, after}

module _ (base : ℕ) (frames : List ℕ) (cells : List Cell) (from to slot : ℕ)
    (held : AreHeld base frames cells) (from_in : from < length cells) (to_in : to < length cells)
    (goes : (cell_at cells from).holder ≡ Some slot) (shut : (cell_at cells from).shut ≡ true)
    (free : (cell_at cells to).holder ≡ None) (open_ : (cell_at cells to).shut ≡ false) where
  -- there is still room for the rest
  pub enough_after : count_by is_stranded_cell (drop from cells)
      ≤ count_by is_spare_cell (drop to cells)
      → count_by is_stranded_cell (drop (from + 1) (after cells from to slot))
      ≤ count_by is_spare_cell (drop (to + 1) (after cells from to slot))
  enough_after h =
      let d : Cell = record { holder = None; shut = false } in
      let short : to < length (set cells from left_cell) =
      omega (arith, length-set cells from left_cell) in
      let at_mid : cell_at (set cells from left_cell) to ≡ cell_at cells to =
      get_or-set_other cells from to left_cell d
      (λ e.
      apart base frames cells from to slot held from_in to_in goes shut free open_
      (sym e)) in
      let s1 : count_by is_stranded_cell (drop (from + 1) (after cells from to slot))
      ≡ count_by is_stranded_cell (drop (from + 1) (set cells from left_cell)) =
      count-drop-set is_stranded_cell (set cells from left_cell) (from + 1) to
      (taken_cell slot) d short (rw (at_mid, open_) refl) in
      let s2 : count_by is_stranded_cell (drop (from + 1) (set cells from left_cell))
      ≡ count_by is_stranded_cell (drop (from + 1) cells) =
      ap (count_by is_stranded_cell)
      (drop-set-lt (from + 1) cells from left_cell (omega arith)) in
      let s3 : count_by is_stranded_cell (drop from cells)
      ≡ 1 + count_by is_stranded_cell (drop (from + 1) cells) =
      count-drop_more is_stranded_cell cells from d from_in ∙ rw (shut, goes) refl in
      let p1 : count_by is_spare_cell (drop (to + 1) (after cells from to slot))
      ≡ count_by is_spare_cell (drop (to + 1) (set cells from left_cell)) =
      ap (count_by is_spare_cell)
      (drop-set-lt (to + 1) (set cells from left_cell) to (taken_cell slot)
      (omega arith)) in
      let p2 : count_by is_spare_cell (drop (to + 1) (set cells from left_cell))
      ≡ count_by is_spare_cell (drop (to + 1) cells) =
      count-drop-set is_spare_cell cells (to + 1) from left_cell d from_in (rw shut refl) in
      let p3 : count_by is_spare_cell (drop to cells)
      ≡ 1 + count_by is_spare_cell (drop (to + 1) cells) =
      count-drop_more is_spare_cell cells to d to_in ∙ rw (open_, free) refl in
      omega arith

-- there are enough spare frames at the start
pub enough_first : (base : ℕ) (frames : List ℕ) (cells : List Cell) → AreHeld base frames cells
    → length frames ≤ count_by is_open_cell cells
    → count_by is_stranded_cell cells ≤ count_by is_spare_cell cells
enough_first base frames cells held h = omega (arith, held.count, split_count cells)

pub enough_rest : (cells : List Cell) (from n : ℕ) → from < length cells
    → count_by is_stranded_cell (drop from cells) ≤ n
    → count_by is_stranded_cell (drop (from + 1) cells) ≤ n
enough_rest cells from n h enough =
    omega (
      arith,
      count-drop_more is_stranded_cell cells from (record { holder = None; shut = false })
          h,
    )

spare_parts : (shut : Bool) (holder : Option ℕ) → (not shut && not (is_some holder)) ≡ true
    → (shut ≡ false) × (holder ≡ None)
spare_parts true None h = cc
spare_parts true (Some k) h = cc
spare_parts false None h = (refl, refl)
spare_parts false (Some k) h = cc

-- a spare cell is open and holds nothing
pub spare_is : (cell : Cell) → is_spare_cell cell ≡ true
    → (cell.shut ≡ false) × (cell.holder ≡ None)
spare_is cell h = spare_parts cell.shut cell.holder h

-- the spare cells from the first one on are all that were left
pub spare_before : (cells : List Cell) (from to start : ℕ) → to < length cells
    → is_spare_cell (cell_at cells to) ≡ true
    → count_by is_spare_cell (drop (to + 1) cells) + 1 ≡ count_by is_spare_cell (drop start cells)
    → count_by is_stranded_cell (drop from cells) ≤ count_by is_spare_cell (drop start cells)
    → count_by is_stranded_cell (drop from cells) ≤ count_by is_spare_cell (drop to cells)
spare_before cells from to start h is rest enough =
    let one : cond {A = ℕ} (is_spare_cell (cell_at cells to)) 1 0 ≡ 1 = rw is refl in
    let all = count-drop_more is_spare_cell cells to (record { holder = None; shut = false }) h in
    omega (arith, one, all)
