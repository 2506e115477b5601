-- The numbers of a part's role in an image. Own.
use Rattle.std.specs.Prelude.{ℕ, if◌then◌else◌, ◌==◌, Option, Some, None}
use Rattle.bl_plan.specs.declared.part.Role.{Role}
use Rattle.bl_plan.specs.declared.part.Role.TheVariants.{Kernel, Module, Information, BootParams}
use Rattle.bl_plan.specs.declared.part.Role.TheVariants.{CommandLine, Gdt, Initrd, PageTables}

abbrev pub role_number : Role → ℕ
role_number Kernel = 1
role_number Module = 2
role_number Information = 3
role_number BootParams = 4
role_number CommandLine = 5
role_number Gdt = 6
role_number Initrd = 7
role_number PageTables = 8

-- the role of a number
unfoldable pub role_numbered : ℕ → Option Role
role_numbered n =
    if n == 1 then Some Kernel else
    if n == 2 then Some Module else
    if n == 3 then Some Information else
    if n == 4 then Some BootParams else
    if n == 5 then Some CommandLine else
    if n == 6 then Some Gdt else
    if n == 7 then Some Initrd else
    if n == 8 then Some PageTables else None
