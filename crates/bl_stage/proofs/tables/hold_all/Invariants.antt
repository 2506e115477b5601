use Rattle.std.proofs.Common.{◌≡◌, take, length}
use Rattle.bl_stage.specs.internal.Cells.{AreHeld}
use Rattle.bl_stage.proofs.tables.hold_all.Given as goal

abbrev pub invariant-loop-slot : goal.invariant-loop-slot
invariant-loop-slot g l = record {
  wide : length l.cells ≡ length l.fn.cells;
  held : AreHeld l.base (take l.slot l.frames) l.cells;
}
