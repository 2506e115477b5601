use Rattle.std.proofs.Common.{◌≡◌, drop}
use Rattle.bl_load.specs.internal.Multiboot2Entries.{lines_of_modules}
use Rattle.bl_load.specs.EntryValue.{lines_fault}
use Rattle.bl_load.proofs.line_checks.check_module_lines.Given as goal

-- the lines so far have no fault
abbrev pub invariant-loop-module : goal.invariant-loop-module
invariant-loop-module g l =
    lines_fault (lines_of_modules (drop l.module-index l.modules)) ≡ lines_fault (lines_of_modules l.modules)
