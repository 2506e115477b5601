use Rattle.std.proofs.Common.{◌≡◌, ◌++◌, drop, map, All}
use Rattle.bl_mbi.specs.InfoToWriteFacts.{IsModule}
use Rattle.bl_load.specs.internal.Multiboot2Entries.{lines_of_modules}
use Rattle.bl_load.specs.Rows.{told_modules}
use Rattle.bl_load.proofs.multiboot2.information.modules_at.Given as goal

-- what is told so far, and what is left, is all
abbrev pub invariant-loop-index : goal.invariant-loop-index
invariant-loop-index g l = record {
  told : l.told.items
      ++ told_modules (map g.V.ByteView.bytes l.entry.files.now) l.places l.index
      (lines_of_modules (drop l.index l.entry.modules.now))
      ≡ told_modules (map g.V.ByteView.bytes l.entry.files.now) l.places 0 (lines_of_modules l.entry.modules.now);
  fits : All IsModule l.told.items;
}
