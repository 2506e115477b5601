-- What marking keeps, and how many frames it leaves open.
use Rattle.std.proofs.Common.{◌≡◌, ℕ, zero, suc, take, ◌||◌, ◌&&◌, inl, inr, ◌+◌, ◌-◌, ◌*◌, ◌<◌}
use Rattle.std.proofs.Common.{◌≤◌, List, [], ◌∷◌, length, get_or, Bool, true, false, not, cond}
use Rattle.std.proofs.Common.{Option, is_some, arith, refl, sym, ap, ◌∙◌}
use Rattle.std.specs.List.{count_by}
use Rattle.std.specs.declared.ops.Range.{Range}
use Rattle.std.proofs.lemmas.List.Sums.{sum_by-cons, sum_by_more}
use Rattle.bl_stage.specs.declared.cell.Cell.{Cell}
use Rattle.bl_map.specs.PoolFrames.{misses_frame, is_open, open_among, frames_in}
use Rattle.bl_stage.specs.Ranges.{meets, IsSameOutside}
use Rattle.bl_stage.specs.internal.Cells.{is_open_cell, is_held_cell, no_cell, cell_at}
use Rattle.bl_stage.specs.internal.Cells.{frames_range}
use Rattle.bl_stage.specs.internal.Cells.{AreHeld}

-- cells with the same holders count alike
same_held : (cells marked : List Cell) → length marked ≡ length cells
    → ((j : ℕ) → (cell_at marked j).holder ≡ (cell_at cells j).holder)
    → count_by is_held_cell marked ≡ count_by is_held_cell cells
same_held [] [] long same = refl
same_held [] (m ∷ ms) long same = absurd (omega arith)
same_held (c ∷ cs) [] long same = absurd (omega arith)
same_held (c ∷ cs) (m ∷ ms) long same =
    let first : m.holder ≡ c.holder = same 0 in
    let one : cond {A = ℕ} (is_held_cell m) 1 0 ≡ cond {A = ℕ} (is_held_cell c) 1 0 =
    ap (λ (o : Option ℕ). cond {A = ℕ} (is_some o) 1 0) first in
    omega (
      arith,
      one,
      sum_by-cons (λ x. cond {A = ℕ} (is_held_cell x) 1 0) c cs,
      sum_by-cons (λ x. cond {A = ℕ} (is_held_cell x) 1 0) m ms,
      same_held cs ms (omega arith) (λ j. same (suc j)),
    )

-- marking keeps who holds what
pub held_marked : (base : ℕ) (frames : List ℕ) (cells marked : List Cell)
    → AreHeld base frames cells → length marked ≡ length cells
    → ((j : ℕ) → (cell_at marked j).holder ≡ (cell_at cells j).holder) → AreHeld base frames marked
held_marked base frames cells marked held long same = record {
  low = held.low;
  high = λ k h. rw long (held.high k h);
  each = λ k h. same (get_or frames k 0 - base) ∙ held.each k h;
  within = λ j k is. held.within j k (sym (same j) ∙ is);
  back = λ j k is. held.back j k (sym (same j) ∙ is);
  count = same_held cells marked long same ∙ held.count;
}

-- the first n cells that are open are as many as the frames that no range meets
pub open_count : (ranges : List (Range ℕ)) (cells : List Cell) (base n : ℕ)
    → ((j : ℕ) → j < length cells → (cell_at cells j).shut ≡ meets ranges (base + j))
    → n ≤ length cells
    → count_by is_open_cell (take n cells) ≡ open_among ranges (4096 * base) n
open_count ranges cells base zero same within = refl
open_count ranges cells base (suc n) same within =
    let here : (cell_at cells n).shut ≡ not (is_open ranges (4096 * base + 4096 * n)) =
    same n (omega arith)
    ∙ ap (λ a. not (is_open ranges a))
    (let e : 4096 * (base + n) ≡ 4096 * base + 4096 * n = omega arith in e) in
    let one : cond {A = ℕ} (is_open_cell (cell_at cells n)) 1 0
    ≡ cond (is_open ranges (4096 * base + 4096 * n)) 1 0 =
    rw here (twice (is_open ranges (4096 * base + 4096 * n))) in
    let before = open_count ranges cells base n same (omega arith) in
    let step = sum_by_more (λ c. cond {A = ℕ} (is_open_cell c) 1 0) cells n no_cell (omega arith) in
    let next : count_by is_open_cell (take (suc n) cells)
    ≡ count_by is_open_cell (take (n + 1) cells) =
    ap (λ m. count_by is_open_cell (take m cells))
    (let e : suc n ≡ n + 1 = omega arith in e) in
    omega (arith, one, before, step, next)
  where
    twice : (b : Bool) → cond {A = ℕ} (not (not b)) 1 0 ≡ cond b 1 0
    twice true = refl
    twice false = refl

-- one more range
pub meets_more : (ranges : List (Range ℕ)) (k frame : ℕ) (d : Range ℕ) → k < length ranges
    → meets (take (k + 1) ranges) frame
    ≡ (meets (take k ranges) frame || not (misses_frame (get_or ranges k d) (4096 * frame)))
meets_more [] k frame d h = absurd (omega arith)
meets_more (r ∷ rs) zero frame d h = first (misses_frame r (4096 * frame))
  where
    first : (b : Bool) → not (b && true) ≡ (false || not b)
    first true = refl
    first false = refl
meets_more (r ∷ rs) (suc k) frame d h =
    ap (λ m. meets (take m (r ∷ rs)) frame) (let e : suc k + 1 ≡ suc (k + 1) = omega arith in e)
    ∙ later (misses_frame r (4096 * frame)) (is_open (take (k + 1) rs) (4096 * frame))
    (is_open (take k rs) (4096 * frame)) (not (misses_frame (get_or rs k d) (4096 * frame)))
    (meets_more rs k frame d (omega arith))
  where
    later : (b rest before here : Bool) → not rest ≡ (not before || here)
        → not (b && rest) ≡ (not (b && before) || here)
    later true rest before here e = e
    later false rest before here e = refl

-- the frames of a stage lie where its pool does
pub pool_frames : (pool : Range ℕ) (base count : ℕ) → pool.start ≡ 4096 * base
    → pool.end ≡ 4096 * (base + count) → frames_in pool ≡ count
pool_frames pool base count start end = omega arith

pub same_outside : (pool : Range ℕ) (base count : ℕ) (old new : List ℕ) → pool.start ≡ 4096 * base
    → pool.end ≡ 4096 * (base + count) → IsSameOutside (frames_range base count) old new
    → IsSameOutside pool old new
same_outside pool base count old new start end same a h =
    same a (elim h [ inl low ↦ inl (omega arith) | inr high ↦ inr (omega arith) ])
