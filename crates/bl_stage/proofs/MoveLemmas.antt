-- One frame is moved.
use Rattle.std.proofs.Common.{◌≡◌, ◌≢◌, ℕ, ◌+◌, ◌-◌, ◌*◌, ◌<◌, ◌≤◌, List, length, get_or, set}
use Rattle.std.proofs.Common.{slice_range, true, false, Some, None, arith, rules, refl, sym, ap}
use Rattle.std.proofs.Common.{◌∙◌, inl, inr}
use Rattle.std.proofs.lemmas.Bool.{cases_lt, cases_eq}
use Rattle.std.proofs.lemmas.List.{places}
use Rattle.bl_mem.specs.Memory.{overwrite}
use Rattle.bl_mem.proofs.Overwrites.{length-overwrite, get_or-overwrite_in, get_or-overwrite_below}
use Rattle.bl_mem.proofs.Overwrites.{get_or-overwrite_above}
use Rattle.bl_stage.specs.declared.cell.Cell.{Cell}
use Rattle.bl_stage.specs.Ranges.{IsSameOutside}
use Rattle.bl_stage.specs.internal.Cells.{cell_at, frames_range, AreHeld, ReadAlike, Moved}
use Rattle.bl_stage.proofs.MovedCells.{moved_cells, at_slot, now, now_slot, now_other, now_length}
use Rattle.bl_stage.proofs.MovedCells.{after_length, not_to, still_held, shut_after, left_after}

module _ (base : ℕ) (frames : List ℕ) (cells : List Cell) (from to slot : ℕ)
    (held : AreHeld base frames cells) (from_in : from < length cells) (to_in : to < length cells)
    (goes : (cell_at cells from).holder ≡ Some slot) (shut : (cell_at cells from).shut ≡ true)
    (free : (cell_at cells to).holder ≡ None) (open_ : (cell_at cells to).shut ≡ false) where
  module _ (bytes : List ℕ) (inside : 4096 * (base + length cells) ≤ length bytes) where
    piece : List ℕ
    piece = slice_range bytes (4096 * (base + from)) (4096 * (base + from) + 4096)

    whole : length piece ≡ 4096
    unfolding piece
    whole = search (rules, places)

    written : List ℕ
    written = overwrite bytes (4096 * (base + to)) piece

    fits : 4096 * (base + to) + length piece ≤ length bytes
    fits = omega (arith, whole)

    written_length : length written ≡ length bytes
    unfolding written
    written_length = length-overwrite bytes (4096 * (base + to)) piece fits

    -- the frame that was moved reads as it did
    at_new : (i : ℕ) → i < 4096
        → get_or written (4096 * (base + to) + i) 0 ≡ get_or bytes (4096 * (base + from) + i) 0
    unfolding written piece
    at_new i h =
        let offset : 4096 * (base + to) + i - 4096 * (base + to) ≡ i = omega arith in
        let read : get_or piece i 0 ≡ get_or bytes (4096 * (base + from) + i) 0 =
        grind (arith, places) in
        get_or-overwrite_in bytes (4096 * (base + to)) piece (4096 * (base + to) + i) 0
        (omega arith) (omega (arith, whole)) fits ∙ ap (λ k. get_or piece k 0) offset ∙ read

    -- and so does every other
    at_old : (frame i : ℕ) → frame ≢ base + to → i < 4096
        → get_or written (4096 * frame + i) 0 ≡ get_or bytes (4096 * frame + i) 0
    unfolding written
    at_old frame i other h =
        elim (cases_lt frame (base + to)) [
          | inl low ↦
              get_or-overwrite_below bytes (4096 * (base + to)) piece (4096 * frame + i) 0
              (omega arith) fits
          | inr high ↦
              get_or-overwrite_above bytes (4096 * (base + to)) piece (4096 * frame + i) 0
              (omega (arith, whole)) fits
        ]

    reads_after : ReadAlike bytes frames written (now base frames to slot)
    reads_after k i h small =
        elim (cases_eq k slot) [
          | inl same ↦
              rw (
                same,
                now_slot base frames cells from to slot held from_in to_in goes shut free open_,
                at_slot base frames cells from to slot held from_in to_in goes shut free
                    open_,
              ) (at_new i small)
          | inr other ↦
              rw (now_other base frames to slot k other)
              (at_old (get_or frames k 0) i
              (λ e.
              not_to base frames cells from to slot held from_in to_in goes shut free open_
              k h (omega arith)) small)
        ]

    outside_after : IsSameOutside (frames_range base (length cells)) bytes written
    unfolding written
    outside_after a h = elim h [
      | inl low ↦ get_or-overwrite_below bytes (4096 * (base + to)) piece a 0 (omega arith) fits
      | inr high ↦
          get_or-overwrite_above bytes (4096 * (base + to)) piece a 0 (omega (arith, whole)) fits
    ]

    -- one more move
    pub one_more : (old : List ℕ) (old_frames : List ℕ) (old_cells : List Cell)
        → Moved base old bytes old_frames frames old_cells cells from
        → Moved base old
        (overwrite bytes (4096 * (base + to))
        (slice_range bytes (4096 * (base + from)) (4096 * (base + from) + 4096))) old_frames
        (set frames slot (base + to)) old_cells (moved_cells cells from to slot)
        (from + 1)
    unfolding written piece
    one_more old old_frames old_cells so_far = record {
      held = still_held base frames cells from to slot held from_in to_in goes shut free open_;
      long = now_length base frames to slot ∙ so_far.long;
      wide = after_length cells from to slot ∙ so_far.wide;
      size = written_length ∙ so_far.size;
      same = λ k i h small. reads_after k i (rw so_far.long h) small ∙ so_far.same k i h small;
      shut =
          λ j.
          shut_after base frames cells from to slot held from_in to_in goes shut free open_ j
          ∙ so_far.shut j;
      left =
          left_after base frames cells from to slot held from_in to_in goes shut free
          open_ so_far.left;
      stays = λ k h is. elim (cases_eq k slot) [
        | inl same ↦
            let e : get_or frames k 0 ≡ get_or old_frames k 0 = so_far.stays k h is in
            let e2 : get_or old_frames k 0 - base ≡ from =
            let a =
            at_slot base frames cells from to slot held from_in to_in goes shut free open_ in
            let b : get_or frames k 0 ≡ get_or frames slot 0 =
            ap (λ i. get_or frames i 0) same in omega arith in
            let e3 : true ≡ false =
            sym shut ∙ so_far.shut from ∙ ap (λ j. (cell_at old_cells j).shut) (sym e2) ∙ is in
            absurd (cc)
        | inr other ↦ now_other base frames to slot k other ∙ so_far.stays k h is
      ];
      outside = λ a h. outside_after a (rw so_far.wide h) ∙ so_far.outside a h;
    }

-- nothing was moved yet
pub none_moved : (base : ℕ) (bytes frames : List ℕ) (cells : List Cell) → AreHeld base frames cells
    → Moved base bytes bytes frames frames cells cells 0
none_moved base bytes frames cells held = record {
  held = held;
  long = refl;
  wide = refl;
  size = refl;
  same = λ k i h small. refl;
  shut = λ j. refl;
  left = λ j h. absurd (omega arith);
  stays = λ k h is. refl;
  outside = λ a h. refl;
}

-- a cell from which nothing has to be moved
pub none_more : (base : ℕ) (old bytes old_frames frames : List ℕ) (old_cells cells : List Cell)
    (from : ℕ) → ((cell_at cells from).shut ≡ true → (cell_at cells from).holder ≡ None)
    → Moved base old bytes old_frames frames old_cells cells from
    → Moved base old bytes old_frames frames old_cells cells (from + 1)
none_more base old bytes old_frames frames old_cells cells from nothing so_far = record {
  held = so_far.held;
  long = so_far.long;
  wide = so_far.wide;
  size = so_far.size;
  same = so_far.same;
  shut = so_far.shut;
  left = λ j h is. elim (cases_eq j from) [
    | inl same ↦ rw same (nothing (ap (λ i. (cell_at cells i).shut) (sym same) ∙ is))
    | inr other ↦ so_far.left j (omega arith) is
  ];
  stays = so_far.stays;
  outside = so_far.outside;
}
