-- What a file reads as, if its frames are apart: as it did, or with a piece written.
use Rattle.std.proofs.Common.{◌≡◌, ◌≢◌, ℕ, ◌+◌, ◌-◌, ◌*◌, ◌/◌, ◌%◌, ◌<◌, ◌≤◌, ◌⊎◌, List, length}
use Rattle.std.proofs.Common.{get_or, take, slice_range, arith, sym, ap, ◌∙◌, inl, inr}
use Rattle.std.specs.List.{sum_by}
use Rattle.std.proofs.lemmas.Bool.{cases_eq, cases_lt}
use Rattle.std.proofs.lemmas.List.{places, take-take, ext_get_or}
use Rattle.std.proofs.lemmas.List.Sums.{sum_by_more, sum_by_more_le, sum_by-take-le}
use Rattle.bl_mem.specs.Memory.{overwrite}
use Rattle.bl_mem.proofs.Overwrites.{length-overwrite, get_or-overwrite_in, get_or-overwrite_below}
use Rattle.bl_mem.proofs.Overwrites.{get_or-overwrite_above}
use Rattle.bl_mem.proofs.ValueLemmas.{values, length-values, get_or-values}
use Rattle.bl_map.specs.PoolFrames.{frames_of}
use Rattle.bl_stage.specs.Staged.{AreInside, place_of, staged, frames_before, AreApart}
use Rattle.bl_stage.proofs.FrameLemmas.{same_below}

-- a file's frames lie within the list of all
pub file_within : (sizes : List ℕ) (file : ℕ) → file < length sizes
    → frames_before sizes file + frames_of (get_or sizes file 0) ≤ sum_by frames_of sizes
file_within sizes file h = sum_by_more_le frames_of sizes file 0 h

-- one file's frames end before a later one's begin
pub file_before : (sizes : List ℕ) (f g : ℕ) → f < g → g < length sizes
    → frames_before sizes f + frames_of (get_or sizes f 0) ≤ frames_before sizes g
file_before sizes f g h within =
    let step = sum_by_more frames_of sizes f 0 (omega arith) in
    let part : sum_by frames_of (take (f + 1) (take g sizes)) ≤ sum_by frames_of (take g sizes) =
    sum_by-take-le frames_of (take g sizes) (f + 1) in
    let same : take (f + 1) (take g sizes) ≡ take (f + 1) sizes =
    take-take (f + 1) g sizes (omega arith) in
    let sums : sum_by frames_of (take (f + 1) (take g sizes))
    ≡ sum_by frames_of (take (f + 1) sizes) = ap (sum_by frames_of) same in
    omega (arith, step, part, sums)

-- a frame of a part of the list
pub read_part : (frames : List ℕ) (a n k : ℕ) → k < n → a + n ≤ length frames
    → get_or (slice_range frames a (a + n)) k 0 ≡ get_or frames (a + k) 0
read_part frames a n k h within = grind (arith, places)

-- a table with one range changed
overwrite_within : (f g : ℕ → ℕ) (n start : ℕ) (part : List ℕ) → start + length part ≤ n
    → ((a : ℕ) → start ≤ a → a < start + length part → g a ≡ get_or part (a - start) 0)
    → ((a : ℕ) → a < start → g a ≡ f a)
    → ((a : ℕ) → start + length part ≤ a → a < n → g a ≡ f a)
    → values g n ≡ overwrite (values f n) start part
overwrite_within f g n start part h inside below above =
    let size = length-values f n in
    let fits : start + length part ≤ length (values f n) = omega arith in
    ext_get_or 0
    _ _ (length-values g n ∙ sym (length-overwrite (values f n) start part fits ∙ size))
    (λ a within.
    let small : a < n = let e = length-values g n in omega arith in
    get_or-values g n a small ∙ elim (cases_lt a start) [
      | inl low ↦
          below a low
          ∙ sym
          (get_or-overwrite_below (values f n) start part a 0 low fits
          ∙ get_or-values f n a small)
      | inr at_least ↦ elim (cases_lt a (start + length part)) [
        | inl high ↦
            inside a at_least high
            ∙ sym (get_or-overwrite_in (values f n) start part a 0 at_least high fits)
        | inr past ↦
            above a past small
            ∙ sym
            (get_or-overwrite_above (values f n) start part a 0 past fits
            ∙ get_or-values f n a small)
      ]
    ])

module _ (bytes frames piece : List ℕ) (slot : ℕ) (apart : AreApart frames)
    (slot_in : slot < length frames) (inside : AreInside frames (length bytes))
    (short : length piece ≤ 4096) where
  abbrev at : ℕ
  at = 4096 * get_or frames slot 0

  abbrev after : List ℕ
  after = overwrite bytes at piece

  fits : at + length piece ≤ length bytes
  fits = let i = inside slot slot_in in omega arith

  -- another frame reads as before
  at_other : (k i : ℕ) → k < length frames → k ≢ slot → i < 4096
      → get_or after (4096 * get_or frames k 0 + i) 0
      ≡ get_or bytes (4096 * get_or frames k 0 + i) 0
  at_other k i h other small =
      let differ : get_or frames k 0 ≢ get_or frames slot 0 =
      λ e. other (apart k slot h slot_in e) in
      elim (cases_lt (get_or frames k 0) (get_or frames slot 0)) [
        | inl low ↦
            get_or-overwrite_below bytes at piece (4096 * get_or frames k 0 + i) 0 (omega arith)
            fits
        | inr high ↦
            get_or-overwrite_above bytes at piece (4096 * get_or frames k 0 + i) 0 (omega arith)
            fits
      ]

  -- a file to which the piece does not belong
  pub file_kept : (a n len : ℕ) → a + n ≤ length frames → len ≤ 4096 * n
      → (slot < a) ⊎ (a + n ≤ slot)
      → staged after (slice_range frames a (a + n)) len
      ≡ staged bytes (slice_range frames a (a + n)) len
  file_kept a n len within enough away =
      same_below (λ i. get_or after (place_of (slice_range frames a (a + n)) i) 0)
      (λ i. get_or bytes (place_of (slice_range frames a (a + n)) i) 0) len (λ i h.
      let k = i / 4096 in
      let other : a + i / 4096 ≢ slot =
      λ e. elim away [ inl l ↦ omega arith | inr r ↦ omega arith ] in
      rw (read_part frames a n (i / 4096) (omega arith) within)
      (at_other (a + i / 4096) (i % 4096) (omega arith) other (omega arith)))

  -- the file to which it does
  pub file_put : (a n len index : ℕ) → a + n ≤ length frames → len ≤ 4096 * n → slot ≡ a + index
      → index < n → 4096 * index + length piece ≤ len
      → staged after (slice_range frames a (a + n)) len
      ≡ overwrite (staged bytes (slice_range frames a (a + n)) len) (4096 * index) piece
  file_put a n len index within enough is small room =
      overwrite_within (λ i. get_or bytes (place_of (slice_range frames a (a + n)) i) 0)
      (λ i. get_or after (place_of (slice_range frames a (a + n)) i) 0) len (4096 * index) piece
      room
      (λ i low high.
      let k : i / 4096 ≡ index = omega arith in
      let offset : i % 4096 ≡ i - 4096 * index = omega arith in
      let back : at + (i - 4096 * index) - at ≡ i - 4096 * index = omega arith in
      let here : get_or frames (a + index) 0 ≡ get_or frames slot 0 =
      ap (λ j. get_or frames j 0) (sym is) in
      rw (k, offset, read_part frames a n index small within, here)
      (get_or-overwrite_in bytes at piece (at + (i - 4096 * index)) 0 (omega arith)
      (omega arith) fits ∙ ap (λ j. get_or piece j 0) back))
      (λ i low.
      rw (read_part frames a n (i / 4096) (omega arith) within)
      (at_other (a + i / 4096) (i % 4096) (omega arith) (omega arith) (omega arith)))
      (λ i high below. elim (cases_eq (i / 4096) index) [
        | inl same ↦
            let here : get_or frames (a + index) 0 ≡ get_or frames slot 0 =
            ap (λ j. get_or frames j 0) (sym is) in
            rw (same, read_part frames a n index small within, here)
            (get_or-overwrite_above bytes at piece (at + i % 4096) 0 (omega arith) fits)
        | inr other ↦
            rw (read_part frames a n (i / 4096) (omega arith) within)
            (at_other (a + i / 4096) (i % 4096) (omega arith) (omega arith) (omega arith))
      ])
