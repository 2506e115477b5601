use Rattle.std.proofs.Common.{◌≡◌, ℕ, ◌<◌, ◌≤◌, length, true}
use Rattle.bl_stage.specs.internal.Cells.{cell_at}
use Rattle.bl_stage.proofs.shut_cells.shut_range.Given as goal

abbrev pub invariant-loop-at : goal.invariant-loop-at
invariant-loop-at g l = record {
  wide : length l.cells ≡ length l.fn.cells;
  holders : (j : ℕ) → (cell_at l.cells j).holder ≡ (cell_at l.fn.cells j).holder;
  shut : (j : ℕ) → l.first ≤ j → j < l.at → (cell_at l.cells j).shut ≡ true;
  below : (j : ℕ) → j < l.first → (cell_at l.cells j).shut ≡ (cell_at l.fn.cells j).shut;
  above : (j : ℕ) → l.at ≤ j → (cell_at l.cells j).shut ≡ (cell_at l.fn.cells j).shut;
}
