use Rattle.std.proofs.Common.{◌≡◌, ◌+◌, ◌*◌, ◌≤◌, drop}
use Rattle.bl_load.specs.internal.Multiboot2Entries.{lines_of_modules}
use Rattle.bl_load.specs.internal.Placing.{module_tags_size}
use Rattle.bl_load.proofs.multiboot2.rows.module_tags_size.Given as goal

-- the tags so far, and those that are left, are all
abbrev pub invariant-loop-module : goal.invariant-loop-module
invariant-loop-module g l = record {
  sum : l.size + module_tags_size (lines_of_modules (drop l.module-index l.modules))
      ≡ module_tags_size (lines_of_modules l.modules);
  small : l.size ≤ 4120 * l.module-index;
}
