use Rattle.std.proofs.Common.{◌≡◌, take}
use Rattle.std.specs.List.{count_by}
use Rattle.bl_stage.specs.internal.Cells.{is_open_cell}
use Rattle.bl_stage.proofs.shut_cells.count_open.Given as goal

abbrev pub invariant-loop-at : goal.invariant-loop-at
invariant-loop-at g l = l.open ≡ count_by is_open_cell (take l.at l.cells)
