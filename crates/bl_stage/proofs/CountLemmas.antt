-- Counting cells: what is open is held and to stay, or spare.
use Rattle.std.proofs.Common.{◌≡◌, ℕ, ◌+◌, ◌-◌, ◌<◌, List, [], ◌∷◌, length, get_or, set, drop, Bool}
use Rattle.std.proofs.Common.{true, false, cond, Option, Some, None, is_some, not, ◌&&◌, arith}
use Rattle.std.proofs.Common.{refl, sym, ap, ◌∙◌, inl, inr}
use Rattle.std.specs.List.{count_by}
use Rattle.std.proofs.lemmas.Bool.{cases_lt}
use Rattle.std.proofs.lemmas.List.{drop-set-lt, drop-set-add, get_or-drop, length-drop, drop_all}
use Rattle.std.proofs.lemmas.List.Sums.{sum_by-set, sum_by-cons, sum_by-drop_more}
use Rattle.bl_stage.specs.declared.cell.Cell.{Cell}
use Rattle.bl_stage.specs.internal.Cells.{is_open_cell, is_held_cell, is_spare_cell}
use Rattle.bl_stage.specs.internal.Cells.{is_stranded_cell}

-- one cell in each count
split_parts : (shut : Bool) (holder : Option ℕ)
    → cond {A = ℕ} (not shut) 1 0 + cond (shut && is_some holder) 1 0
    ≡ cond (is_some holder) 1 0 + cond (not shut && not (is_some holder)) 1 0
split_parts true None = refl
split_parts true (Some k) = refl
split_parts false None = refl
split_parts false (Some k) = refl

split_cell : (cell : Cell)
    → cond {A = ℕ} (is_open_cell cell) 1 0 + cond (is_stranded_cell cell) 1 0
    ≡ cond (is_held_cell cell) 1 0 + cond (is_spare_cell cell) 1 0
split_cell cell = split_parts cell.shut cell.holder

-- what is open and what is stranded are as many as what is held and what is spare
pub split_count : (cells : List Cell)
    → count_by is_open_cell cells + count_by is_stranded_cell cells
    ≡ count_by is_held_cell cells + count_by is_spare_cell cells
split_count [] = refl
split_count (cell ∷ cells) = omega (
  arith,
  split_count cells,
  split_cell cell,
  sum_by-cons (λ c. cond (is_open_cell c) 1 0) cell cells,
  sum_by-cons (λ c. cond (is_stranded_cell c) 1 0) cell cells,
  sum_by-cons (λ c. cond (is_held_cell c) 1 0) cell cells,
  sum_by-cons (λ c. cond (is_spare_cell c) 1 0) cell cells,
)

-- a write of a cell that counts as the one before it
pub count-drop-set : {X : Type 0} (p : X → Bool) (xs : List X) (n i : ℕ) (y d : X) → i < length xs
    → p y ≡ p (get_or xs i d) → count_by p (drop n (set xs i y)) ≡ count_by p (drop n xs)
count-drop-set p xs n i y d h same =
    elim (cases_lt i n) [
      | inl before ↦ ap (count_by p) (drop-set-lt n xs i y before)
      | inr after ↦
          let k = i - n in
          let place : i ≡ n + k = omega arith in
          let moved : drop n (set xs i y) ≡ set (drop n xs) k y =
          ap (λ j. drop n (set xs j y)) place ∙ drop-set-add n xs k y in
          let short : k < length (drop n xs) = omega (arith, length-drop n xs) in
          let read : get_or (drop n xs) k d ≡ get_or xs i d =
          get_or-drop n xs k d ∙ ap (λ j. get_or xs j d) (sym place) in
          let step = sum_by-set (λ x. cond (p x) 1 0) (drop n xs) k y d short in
          let equal : cond {A = ℕ} (p y) 1 0 ≡ cond {A = ℕ} (p (get_or (drop n xs) k d)) 1 0 =
          ap (λ b. cond {A = ℕ} b 1 0) (same ∙ ap p (sym read)) in
          ap (count_by p) moved ∙ omega (arith, step, equal)
    ]

-- the step of a count of the rest
pub count-drop_more : {X : Type 0} (p : X → Bool) (xs : List X) (i : ℕ) (d : X) → i < length xs
    → count_by p (drop i xs) ≡ cond (p (get_or xs i d)) 1 0 + count_by p (drop (i + 1) xs)
count-drop_more p xs i d h = sum_by-drop_more (λ x. cond (p x) 1 0) xs i d h

-- where something is left to be counted, the list goes on
pub count-drop_within : {X : Type 0} (p : X → Bool) (xs : List X) (i : ℕ)
    → 0 < count_by p (drop i xs) → i < length xs
count-drop_within p xs i some =
    elim (cases_lt i (length xs)) [
      | inl within ↦ within
      | inr past ↦
          let none : count_by p (drop i xs) ≡ 0 =
          ap (count_by p) (drop_all i xs past) in absurd (omega arith)
    ]
