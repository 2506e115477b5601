-- Counts of open frames, and the frames that a pass over the ranges has decided.
use Rattle.std.proofs.Common.{◌≡◌, ◌<◌, ◌≤◌, ◌+◌, ◌-◌, ◌*◌, ℕ, zero, suc, true, false, List, length}
use Rattle.std.proofs.Common.{get_or, arith, rules, ap, ◌∙◌, inl, inr}
use Rattle.std.proofs.lemmas.Bool.{cases_lt}
use Rattle.std.proofs.lemmas.List.{get_or_default}
use Rattle.std.proofs.lemmas.List.Folds.{list_all_at}
use Rattle.std.proofs.lemmas.List.Sums.{list_all-from_AllPass}
use Rattle.std.specs.declared.ops.Range.{Range}
use Rattle.std.specs.Prelude.{max}
use Rattle.bl_map.specs.internal.MetFrames.{AreFramesMet}
use Rattle.bl_map.specs.PoolFrames.{frames_in, misses_frame, is_open, open_among, AreAscending}

-- frames of which each is open are counted
all_open : (ranges : List (Range ℕ)) (start n k : ℕ)
    → ((i : ℕ) → n ≤ i → i < n + k → is_open ranges (start + 4096 * i) ≡ true)
    → open_among ranges start (n + k) ≡ open_among ranges start n + k
all_open ranges start n zero h =
    ap (open_among ranges start) (let e : n + 0 ≡ n = omega arith in e) ∙ omega arith
all_open ranges start n (suc k) h =
    let before = all_open ranges start n k (λ i low high. h i low (omega arith)) in
    let last = h (n + k) (omega arith) (omega arith) in
    let next : n + suc k ≡ suc (n + k) = omega arith in
    ap (open_among ranges start) next ∙ rw (last, before) (omega arith)

-- and those of which none is open are not
none_open : (ranges : List (Range ℕ)) (start n k : ℕ)
    → ((i : ℕ) → n ≤ i → i < n + k → is_open ranges (start + 4096 * i) ≡ false)
    → open_among ranges start (n + k) ≡ open_among ranges start n
none_open ranges start n zero h =
    ap (open_among ranges start) (let e : n + 0 ≡ n = omega arith in e)
none_open ranges start n (suc k) h =
    let before = none_open ranges start n k (λ i low high. h i low (omega arith)) in
    let last = h (n + k) (omega arith) (omega arith) in
    let next : n + suc k ≡ suc (n + k) = omega arith in
    ap (open_among ranges start) next ∙ rw (last, before) (omega arith)

-- a frame before a range
before_range : (range : Range ℕ) (frame : ℕ) → frame + 4096 ≤ range.start
    → misses_frame range frame ≡ true
before_range range frame h = search rules

-- where the first k ranges meet none of the frames from the next one on
abbrev pub AreBehind : Range ℕ → List (Range ℕ) → ℕ → ℕ → Type 0
AreBehind pool ranges k next =
    (j i : ℕ) (d : Range ℕ) → j < k → next ≤ i → i < frames_in pool
    → misses_frame (get_or ranges j d) (pool.start + 4096 * i) ≡ true

module _ (pool : Range ℕ) (ranges : List (Range ℕ)) (ascend : AreAscending ranges) (k : ℕ)
    (here : k < length ranges) (next : ℕ) (behind : AreBehind pool ranges k next) where
  -- a frame from the next one on that lies before the k-th range is open: the ranges after that
  -- one begin no lower
  open_before : (i : ℕ) (d : Range ℕ) → next ≤ i → i < frames_in pool
      → pool.start + 4096 * i + 4096 ≤ (get_or ranges k d).start
      → is_open ranges (pool.start + 4096 * i) ≡ true
  open_before i d low high before =
      list_all-from_AllPass (λ (range : Range ℕ). misses_frame range (pool.start + 4096 * i)) ranges
      (λ j e inside. elim (cases_lt j k) [
        | inl first ↦ behind j i e first low high
        | inr same ↦
            let kth = ap (λ (r : Range ℕ). r.start) (get_or_default ranges k d e here) in
            elim (cases_lt k j) [
              | inl later ↦
                  let forward = ascend.forward k e here in
                  let order = ascend.in_order k j e later inside in
                  before_range (get_or ranges j e) (pool.start + 4096 * i) (omega arith)
              | inr last ↦
                  let e' : j ≡ k = omega arith in
                  before_range (get_or ranges j e) (pool.start + 4096 * i) (rw e' (omega arith))
            ]
      ])

  module _ (d met : Range ℕ) (is : AreFramesMet pool (get_or ranges k d) met) (later : ℕ) where
    -- the frames that the k-th range decides: those before it are open, and those that it meets are
    -- not
    pub counted : (n total : ℕ) → next ≤ frames_in pool → n ≡ open_among ranges pool.start next
        → total ≡ n + (met.start - next) → later ≡ max next met.end
        → total ≡ open_among ranges pool.start later
    counted n total within so_far sum e =
        let from : ℕ = next + (met.start - next) in
        let forward = is.forward in
        let inside = is.within in
        let free =
        all_open ranges pool.start next (met.start - next)
        (λ i low high. open_before i d low (omega arith) (is.before i (omega arith))) in
        let taken = none_open ranges pool.start from (later - from)
        (λ i low high.
        list_all_at (λ (range : Range ℕ). misses_frame range (pool.start + 4096 * i)) ranges k d
        here (is.inside i (omega arith) (omega arith))) in
        let all : later ≡ from + (later - from) = omega arith in
        omega (arith, ap (open_among ranges pool.start) all, taken, free)

    -- and from there on none is met by the k-th range, nor by those before it
    pub behind_next : max next met.end ≤ later → AreBehind pool ranges (k + 1) later
    behind_next far j i e first low high = elim (cases_lt j k) [
      | inl before ↦ behind j i e before (omega arith) high
      | inr same ↦
          let last : j ≡ k = omega arith in
          rw (last, get_or_default ranges k e d here) (is.behind i (omega arith) high)
    ]

-- once all ranges were gone through, the frames from the next one on are open
pub counted_all : (pool : Range ℕ) (ranges : List (Range ℕ)) (k next : ℕ) → length ranges ≤ k
    → AreBehind pool ranges k next → next ≤ frames_in pool
    → open_among ranges pool.start (frames_in pool)
    ≡ open_among ranges pool.start next + (frames_in pool - next)
counted_all pool ranges k next all behind within =
    let free = all_open ranges pool.start next (frames_in pool - next)
    (λ i low high.
    list_all-from_AllPass (λ (range : Range ℕ). misses_frame range (pool.start + 4096 * i)) ranges
    (λ j d inside. behind j i d (omega arith) low (omega arith))) in
    let same : frames_in pool ≡ next + (frames_in pool - next) = omega arith in
    ap (open_among ranges pool.start) same ∙ free
