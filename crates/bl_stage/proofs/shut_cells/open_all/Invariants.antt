use Rattle.std.proofs.Common.{◌≡◌, ℕ, ◌<◌, length, false}
use Rattle.bl_stage.specs.internal.Cells.{cell_at}
use Rattle.bl_stage.proofs.shut_cells.open_all.Given as goal

abbrev pub invariant-loop-at : goal.invariant-loop-at
invariant-loop-at g l = record {
  wide : length l.cells ≡ length l.fn.cells;
  holders : (j : ℕ) → (cell_at l.cells j).holder ≡ (cell_at l.fn.cells j).holder;
  open_ : (j : ℕ) → j < l.at → (cell_at l.cells j).shut ≡ false;
}
