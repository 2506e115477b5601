-- What a part is called in a line. Own.
use Rattle.std.specs.Prelude.{List, ℕ, codes}
use Rattle.bl_plan.specs.declared.part.Role.{Role}
use Rattle.bl_plan.specs.declared.part.Role.TheVariants.{Kernel, Module, Information, BootParams}
use Rattle.bl_plan.specs.declared.part.Role.TheVariants.{CommandLine, Gdt, Initrd, PageTables}

abbrev pub part_name : Role → List ℕ
part_name Kernel = codes "kernel"
part_name Module = codes "module"
part_name Information = codes "information"
part_name BootParams = codes "parameters"
part_name CommandLine = codes "line"
part_name Gdt = codes "gdt"
part_name Initrd = codes "initrd"
part_name PageTables = codes "tables"
