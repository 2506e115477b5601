use Rattle.std.proofs.Common.{◌≡◌, ◌++◌, drop, map}
use Rattle.bl_load.specs.internal.Multiboot2Entries.{lines_of_modules}
use Rattle.bl_load.specs.internal.Placing.{capped_module_rows}
use Rattle.bl_load.proofs.multiboot2.rows.push_module_rows.Given as goal

-- the rows so far, and those that are left, are all
abbrev pub invariant-loop-index : goal.invariant-loop-index
invariant-loop-index g l =
    l.rows.items
    ++ capped_module_rows (map g.V.ByteView.bytes l.files) l.index (lines_of_modules (drop l.index l.modules))
    ≡ l.fn.rows.items ++ capped_module_rows (map g.V.ByteView.bytes l.files) 0 (lines_of_modules l.modules)
