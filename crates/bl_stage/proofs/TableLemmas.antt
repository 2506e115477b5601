-- The cells are filled in from a list of frames.
use Rattle.std.proofs.Common.{◌≡◌, ◌≢◌, ℕ, suc, ◌+◌, ◌-◌, ◌<◌, ◌≤◌, ◌⊎◌, List, [], ◌∷◌, ◌++◌}
use Rattle.std.proofs.Common.{length, get_or, set, take, map, ◌/◌, ◌%◌, Bool, false, cond, Option}
use Rattle.std.proofs.Common.{Some, None, is_some, arith, refl, sym, ap, ◌∙◌, inl, inr}
use Rattle.std.specs.List.{count_by, All}
use Rattle.std.proofs.lemmas.Bool.{cases_eq, cases_lt}
use Rattle.std.proofs.lemmas.List.{get_or-set_same, get_or-set_other, length-set, length-take-le}
use Rattle.std.proofs.lemmas.List.{get_or-take, get_or-map, get_or_push, length-map}
use Rattle.std.proofs.Math.ListN.{get_or-append}
use Rattle.std.proofs.lemmas.List.Sums.{sum_by-set, sum_by-cons, count_by-le-length}
use Rattle.bl_stage.specs.declared.cell.Cell.{Cell}
use Rattle.bl_stage.specs.internal.Cells.{is_held_cell, cell_at, AreHeld}
use Rattle.bl_stage.specs.Staged.{AreApart}

-- cells that hold nothing are not counted
pub none_held : (cells : List Cell) → ((j : ℕ) → (cell_at cells j).holder ≡ None)
    → count_by is_held_cell cells ≡ 0
none_held [] empty = refl
none_held (cell ∷ cells) empty =
    let first : cell.holder ≡ None = empty 0 in
    let one : cond {A = ℕ} (is_held_cell cell) 1 0 ≡ 0 = rw first refl in
    omega (
      arith,
      one,
      sum_by-cons (λ c. cond {A = ℕ} (is_held_cell c) 1 0) cell cells,
      none_held cells (λ j. empty (suc j)),
    )

-- at first no frame is held
pub hold_none : (base : ℕ) (cells : List Cell) → ((j : ℕ) → (cell_at cells j).holder ≡ None)
    → AreHeld base [] cells
hold_none base cells empty = record {
  low = λ k h. absurd (omega arith);
  high = λ k h. absurd (omega arith);
  each = λ k h. absurd (omega arith);
  within = λ j k is. let e : None ≡ Some k = sym (empty j) ∙ is in absurd (cc);
  back = λ j k is. let e : None ≡ Some k = sym (empty j) ∙ is in absurd (cc);
  count = none_held cells empty;
}

-- no more frames are held than there are cells
pub held_few : (base : ℕ) (all : List ℕ) (cells : List Cell) (slot : ℕ) → slot ≤ length all
    → AreHeld base (take slot all) cells → slot ≤ length cells
held_few base all cells slot h held =
    omega (arith, held.count, count_by-le-length is_held_cell cells, length-take-le slot all h)

module _ (base : ℕ) (all : List ℕ) (cells : List Cell) (slot : ℕ) (shut : Bool)
    (h : slot < length all) (apart : AreApart all) (low : base ≤ get_or all slot 0)
    (high : get_or all slot 0 < base + length cells)
    (held : AreHeld base (take slot all) cells) where
  abbrev here : ℕ
  here = get_or all slot 0 - base

  abbrev cell : Cell
  cell = record { holder = Some slot; shut = shut }

  here_in : here < length cells
  here_in = omega arith

  so_far : length (take slot all) ≡ slot
  so_far = length-take-le slot all (omega arith)

  next : length (take (slot + 1) all) ≡ slot + 1
  next = length-take-le (slot + 1) all (omega arith)

  -- the cell of this frame is not held
  is_free : (k : ℕ) → (cell_at cells here).holder ≡ Some k → ⊥
  is_free k is =
      let small : k < slot = let w = held.within here k is in omega (arith, so_far) in
      let same : get_or all k 0 ≡ get_or all slot 0 =
      sym (get_or-take slot all k 0 small) ∙ held.back here k is ∙ omega arith in
      let e : k ≡ slot = apart k slot (omega arith) h same in
      omega arith

  holds_nothing : (o : Option ℕ) → ((k : ℕ) → o ≡ Some k → ⊥) → cond {A = ℕ} (is_some o) 1 0 ≡ 0
  holds_nothing None never = refl
  holds_nothing (Some k) never = absurd (never k refl)

  at_here : cell_at (set cells here cell) here ≡ cell
  at_here = get_or-set_same cells here cell _ here_in

  at_other : (j : ℕ) → j ≢ here → cell_at (set cells here cell) j ≡ cell_at cells j
  at_other j other = get_or-set_other cells here j cell _ other

  read_new : (k : ℕ) → k < slot + 1 → get_or (take (slot + 1) all) k 0 ≡ get_or all k 0
  read_new k small = get_or-take (slot + 1) all k 0 small

  read_old : (k : ℕ) → k < slot → get_or (take slot all) k 0 ≡ get_or all k 0
  read_old k small = get_or-take slot all k 0 small

  held_by : (j k : ℕ) → (cell_at (set cells here cell) j).holder ≡ Some k
      → ((j ≡ here) × (k ≡ slot)) ⊎ (cell_at cells j).holder ≡ Some k
  held_by j k is = elim (cases_eq j here) [
    | inl same ↦
        let e : Some slot ≡ Some k =
        ap (λ c. c.holder) (sym at_here)
        ∙ ap (λ i. (cell_at (set cells here cell) i).holder) (sym same) ∙ is in
        inl (same, cc)
    | inr other ↦ inr (ap (λ c. c.holder) (sym (at_other j other)) ∙ is)
  ]

  pub hold_more : AreHeld base (take (slot + 1) all)
      (set cells (get_or all slot 0 - base) (record { holder = Some slot; shut = shut }))
  hold_more = record {
    low = λ k small. rw (read_new k (omega (arith, next))) (elim (cases_eq k slot) [
      | inl same ↦ rw same low
      | inr other ↦
          let s : k < slot = omega (arith, next) in
          let l = held.low k (omega (arith, so_far)) in let r = read_old k s in omega arith
    ]);
    high =
        λ k small.
        rw (read_new k (omega (arith, next)), length-set cells here cell)
        (elim (cases_eq k slot) [
          | inl same ↦ rw same high
          | inr other ↦
              let s : k < slot = omega (arith, next) in
              let l = held.high k (omega (arith, so_far)) in let r = read_old k s in omega arith
        ]);
    each = λ k small. rw (read_new k (omega (arith, next))) (elim (cases_eq k slot) [
      | inl same ↦ rw (same, at_here) refl
      | inr other ↦
          let s : k < slot = omega (arith, next) in
          let was : (cell_at cells (get_or all k 0 - base)).holder ≡ Some k =
          ap (λ f. (cell_at cells (f - base)).holder) (sym (read_old k s))
          ∙ held.each k (omega (arith, so_far)) in
          rw (at_other (get_or all k 0 - base)
          (λ e. is_free k (ap (λ j. (cell_at cells j).holder) (sym e) ∙ was))) was
    ]);
    within = λ j k is. elim (held_by j k is) [
      | inl new ↦ let e = new.1 in omega (arith, next)
      | inr old ↦ let w = held.within j k old in omega (arith, next, so_far)
    ];
    back = λ j k is. elim (held_by j k is) [
      | inl new ↦ rw (new.1, new.0) (read_new slot (omega arith) ∙ omega arith)
      | inr old ↦
          let w : k < slot =
          let w2 =
          held.within j k old in
          omega (arith, so_far) in
          read_new k (omega arith) ∙ sym (read_old k w) ∙ held.back j k old
    ];
    count =
        let set_count =
        sum_by-set (λ c. cond {A = ℕ} (is_held_cell c) 1 0) cells here cell
        (record { holder = None; shut = false }) here_in in
        let was = holds_nothing (cell_at cells here).holder is_free in
        omega (arith, set_count, was, held.count, next, so_far);
  }

  -- one cell more than the frames so far
  pub held_fewer : slot < length cells
  held_fewer =
      let most = held_few base all (set cells here cell) (slot + 1) (omega arith) hold_more in
      omega (arith, most, length-set cells here cell)

-- the number of a frame whose address is given
pub read_number : (addresses : List ℕ) (k : ℕ) → k < length addresses
    → get_or (map (λ a. a / 4096) addresses) k 0 ≡ get_or addresses k 0 / 4096
read_number addresses k h = get_or-map (λ a. a / 4096) addresses k 0 0 h

-- frames at different whole addresses are different
pub numbers_apart : (addresses : List ℕ) → AreApart addresses → All (λ a. a % 4096 ≡ 0) addresses
    → AreApart (map (λ a. a / 4096) addresses)
numbers_apart addresses apart whole j k hj hk same =
    let long = length-map addresses (λ (a : ℕ). a / 4096) in
    let hj2 : j < length addresses = omega (arith, long) in
    let hk2 : k < length addresses = omega (arith, long) in
    let nj = read_number addresses j hj2 in
    let nk = read_number addresses k hk2 in
    let wj = whole j 0 hj2 in
    let wk = whole k 0 hk2 in
    apart j k hj2 hk2 (omega arith)

-- a list of the values of f, after one more is pushed
pub each_more : (f : ℕ → ℕ) (xs ys : List ℕ) (x n : ℕ) → ys ≡ xs ++ x ∷ [] → length xs ≡ n
    → ((k : ℕ) → k < n → get_or xs k 0 ≡ f k) → x ≡ f n
    → (k : ℕ) → k < n + 1 → get_or ys k 0 ≡ f k
each_more f xs ys x n is long each new k h =
    elim (cases_lt k n) [
      | inl below ↦
          ap (λ l. get_or l k 0) is ∙ get_or-append xs (x ∷ []) 0 k (omega arith)
          ∙ each k below
      | inr not_below ↦
          let last : k ≡ n = omega arith in
          ap (λ l. get_or l k 0) is ∙ get_or_push xs x 0 k (omega arith) ∙ new ∙ ap f (sym last)
    ]
