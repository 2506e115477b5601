use Rattle.std.proofs.Common.{◌≡◌, ℕ, ◌+◌, ◌<◌, length, take}
use Rattle.bl_stage.specs.internal.Cells.{cell_at}
use Rattle.bl_stage.specs.Ranges.{meets}
use Rattle.bl_stage.proofs.shut_cells.mark.Given as goal

-- what is shut is what the ranges so far meet
abbrev pub invariant-loop-range : goal.invariant-loop-range
invariant-loop-range g l = record {
  wide : length l.cells ≡ length l.fn.cells;
  holders : (j : ℕ) → (cell_at l.cells j).holder ≡ (cell_at l.fn.cells j).holder;
  shut : (j : ℕ) → j < length l.fn.cells
      → (cell_at l.cells j).shut ≡ meets (take l.range-index l.ranges) (l.base + j);
}
