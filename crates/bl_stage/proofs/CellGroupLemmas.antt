-- What a list of groups stands for, as one cell of it is read or written.
use Rattle.std.proofs.Common.{◌≡◌, ◌≢◌, ℕ, ◌/◌, ◌%◌, ◌<◌, List, length, get_or, set}
use Rattle.std.proofs.Common.{Bool, false, Option, Some, None, IfSome, replicate, arith}
use Rattle.std.proofs.Common.{refl, sym, ap, ◌∙◌, inl, inr, [], ◌∷◌, ◌++◌, zero, suc}
use Rattle.std.specs.Option.{unwrap_or}
use Rattle.std.proofs.lemmas.Bool.{cases_eq, ne_eqb}
use Rattle.std.proofs.lemmas.List.{get_or-set_same, get_or-set_other, length-set, ext_get_or}
use Rattle.std.proofs.lemmas.List.{get_or-replicate, length-replicate}
use Rattle.std.proofs.lemmas.List.FromFn.{length-map-range_with_len, get_or-map-range_with_len}
use Rattle.bl_stage.specs.declared.cell.Cell.{Cell}
use Rattle.bl_stage.specs.declared.cells.CellGroup.{CellGroup}
use Rattle.bl_stage.specs.internal.Cells.{no_cell, cell_at}
use Rattle.bl_stage.specs.internal.PackedCells.{no_group, no_holder, holder_of, cell_in, cells_of}

abbrev in_groups : List CellGroup → ℕ → Cell
in_groups groups at = cell_in (get_or groups (at / 4) no_group) (at % 4)

pub cells_length : (groups : List CellGroup) (count : ℕ) → length (cells_of groups count) ≡ count
cells_length groups count = length-map-range_with_len (in_groups groups) 0 count

pub cells_read : (groups : List CellGroup) (count at : ℕ) → at < count
    → cell_at (cells_of groups count) at ≡ in_groups groups at
cells_read groups count at h =
    get_or-map-range_with_len (in_groups groups) 0 count at at no_cell h (omega arith)

-- a group is written in which one cell changed
pub cells_put : (groups : List CellGroup) (count at : ℕ) (group : CellGroup) (cell : Cell)
    → at < count → at / 4 < length groups → cell_in group (at % 4) ≡ cell
    → ((place : ℕ) → place ≢ at % 4
    → cell_in group place ≡ cell_in (get_or groups (at / 4) no_group) place)
    → cells_of (set groups (at / 4) group) count ≡ set (cells_of groups count) at cell
cells_put groups count at group cell h within here others =
    let new = set groups (at / 4) group in
    let long = cells_length groups count in
    let wide = length-set (cells_of groups count) at cell ∙ long in
    ext_get_or no_cell _ _ (cells_length new count ∙ sym wide)
    (λ j hj.
    let below : j < count = let e = cells_length new count in omega arith in
    cells_read new count j below
    ∙ elim (cases_eq j at) [
      | inl same ↦
          let read =
          get_or-set_same (cells_of groups count) at cell no_cell (omega (arith, long)) in
          rw same
          (ap (λ g. cell_in g (at % 4)) (get_or-set_same groups (at / 4) group no_group within)
          ∙ here ∙ sym read)
      | inr other ↦
          let was =
          get_or-set_other (cells_of groups count) at j cell no_cell other
          ∙ cells_read groups count j below in
          elim (cases_eq (j / 4) (at / 4)) [
            | inl near ↦
                ap (λ k. cell_in (get_or new k no_group) (j % 4)) near
                ∙ ap (λ g. cell_in g (j % 4))
                (get_or-set_same groups (at / 4) group no_group within)
                ∙ others (j % 4) (λ e. other (omega arith))
                ∙ ap (λ k. cell_in (get_or groups k no_group) (j % 4)) (sym near)
                ∙ sym was
            | inr far ↦
                ap (λ g. cell_in g (j % 4))
                (get_or-set_other groups (at / 4) (j / 4) group no_group far)
                ∙ sym was
          ]
    ])

-- the cells of a group that holds nothing
pub cell_of_none : (place : ℕ) → place < 4 → cell_in no_group place ≡ no_cell
cell_of_none place h =
    rw (get_or-replicate 4 place no_holder 0 h, get_or-replicate 4 place false false h) refl

-- where no group stands each cell is one that holds nothing and is open
pub cells_empty : (count : ℕ) → cells_of [] count ≡ replicate count no_cell
cells_empty count =
    ext_get_or no_cell _ _ (cells_length [] count ∙ sym (length-replicate count no_cell))
    (λ j hj.
    let below : j < count = let e = cells_length [] count in omega arith in
    cells_read [] count j below ∙ cell_of_none (j % 4) (omega arith)
    ∙ sym (get_or-replicate count j no_cell no_cell below))

-- groups that read alike have the same cells
pub cells_alike : (new old : List CellGroup) (count : ℕ)
    → ((i : ℕ) → get_or new i no_group ≡ get_or old i no_group)
    → cells_of new count ≡ cells_of old count
cells_alike new old count same =
    ext_get_or no_cell _ _ (cells_length new count ∙ sym (cells_length old count))
    (λ j hj.
    let below : j < count = let e = cells_length new count in omega arith in
    cells_read new count j below ∙ ap (λ g. cell_in g (j % 4)) (same (j / 4))
    ∙ sym (cells_read old count j below))

-- one more that holds nothing
pub none_more : (groups : List CellGroup) (i : ℕ)
    → get_or (groups ++ no_group ∷ []) i no_group ≡ get_or groups i no_group
none_more [] zero = refl
none_more [] (suc i) = refl
none_more (g ∷ gs) zero = refl
none_more (g ∷ gs) (suc i) = none_more gs i

-- a holder is read as it was written
pub holder_again : (holder : Option ℕ) → IfSome holder (λ slot. slot < no_holder)
    → holder_of (unwrap_or holder no_holder) ≡ holder
holder_again None h = refl
holder_again (Some slot) h = rw (ne_eqb slot no_holder (λ e. omega arith)) refl

-- a group whose holders and flags were written at a place
pub put_here : (holders : List ℕ) (shut : List Bool) (at holder : ℕ) (flag : Bool)
    → at < length holders → at < length shut
    → cell_in (record { holders = set holders at holder; shut = set shut at flag }) at
    ≡ record { holder = holder_of holder; shut = flag }
put_here holders shut at holder flag h1 h2 =
    rw (get_or-set_same holders at holder 0 h1, get_or-set_same shut at flag false h2) refl

pub put_others : (holders : List ℕ) (shut : List Bool) (at holder : ℕ) (flag : Bool) (place : ℕ)
    → place ≢ at
    → cell_in (record { holders = set holders at holder; shut = set shut at flag }) place
    ≡ cell_in (record { holders = holders; shut = shut }) place
put_others holders shut at holder flag place other =
    rw (
      get_or-set_other holders at place holder 0 other,
      get_or-set_other shut at place flag false other,
    ) refl

-- a group whose flags were written at a place
pub shut_here : (holders : List ℕ) (shut : List Bool) (at : ℕ) (flag : Bool) → at < length shut
    → cell_in (record { holders = holders; shut = set shut at flag }) at
    ≡ record { holder = holder_of (get_or holders at 0); shut = flag }
shut_here holders shut at flag h = rw (get_or-set_same shut at flag false h) refl

pub shut_others : (holders : List ℕ) (shut : List Bool) (at : ℕ) (flag : Bool) (place : ℕ)
    → place ≢ at
    → cell_in (record { holders = holders; shut = set shut at flag }) place
    ≡ cell_in (record { holders = holders; shut = shut }) place
shut_others holders shut at flag place other =
    rw (get_or-set_other shut at place flag false other) refl
