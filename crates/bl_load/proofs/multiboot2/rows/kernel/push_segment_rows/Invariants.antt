use Rattle.std.proofs.Common.{◌≡◌, ◌++◌, drop}
use Rattle.bl_load.specs.Rows.{segment_rows}
use Rattle.bl_load.proofs.multiboot2.rows.kernel.push_segment_rows.Given as goal

-- the rows so far, and those that are left, are all
abbrev pub invariant-loop-index : goal.invariant-loop-index
invariant-loop-index g l =
    l.rows.items ++ segment_rows l.index (drop l.index l.segments)
    ≡ l.fn.rows.items ++ segment_rows 0 l.segments
