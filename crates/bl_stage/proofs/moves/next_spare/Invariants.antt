use Rattle.std.proofs.Common.{◌≡◌, ◌≤◌, ◌-◌, length, drop}
use Rattle.std.specs.List.{count_by}
use Rattle.bl_stage.specs.internal.Cells.{is_spare_cell}
use Rattle.bl_stage.proofs.moves.next_spare.Given as goal

-- no cell so far is spare
abbrev pub invariant-loop-at : goal.invariant-loop-at
invariant-loop-at g l = record {
  from : l.start ≤ l.at;
  rest : count_by is_spare_cell (drop l.at l.cells) ≡ count_by is_spare_cell (drop l.start l.cells);
}

abbrev pub decreases-loop-at : goal.decreases-loop-at
decreases-loop-at g l = length l.cells - l.at
