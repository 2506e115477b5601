-- The cells that groups of four stand for, as a stage keeps them in memory.
use Rattle.std.specs.Prelude.{◌≡◌, ℕ, ◌/◌, ◌%◌, ◌≤◌, ◌==◌, List, length, map, slice_index}
use Rattle.std.specs.Prelude.{slice_index_or, false}
use Rattle.std.specs.Prelude.{Option, Some, None, if◌then◌else◌, replicate}
use Rattle.std.specs.List.{range_with_len}
use Rattle.bl_stage.specs.declared.cell.Cell.{Cell}
use Rattle.bl_stage.specs.declared.cells.CellGroup.{CellGroup}

-- what stands for the holder of a cell that has none: no list of frames is so long
abbrev pub no_holder : ℕ
no_holder = 4294967295

-- a group of cells that hold nothing and are open
abbrev pub no_group : CellGroup
no_group = record { holders = replicate 4 no_holder; shut = replicate 4 false }

abbrev pub holder_of : ℕ → Option ℕ
holder_of holder = if holder == no_holder then None else Some holder

-- the cell at this place of a group
abbrev pub cell_in : CellGroup → ℕ → Cell
cell_in group place = record {
  holder = holder_of (slice_index group.holders place);
  shut = slice_index_or group.shut place false;
}

-- the first `count` cells of the groups; those of groups that don't stand there hold nothing
abbrev pub cells_of : List CellGroup → ℕ → List Cell
cells_of groups count =
    map (λ at. cell_in (slice_index_or groups (at / 4) no_group) (at % 4)) (range_with_len 0 count)

-- so many groups stand there, and each reads as before
pub record ReachTo (old : List CellGroup) (new : List CellGroup) (count : ℕ) : Type 0 where
  pub there : count ≤ length new
  pub same : (i : ℕ) → slice_index_or new i no_group ≡ slice_index_or old i no_group
