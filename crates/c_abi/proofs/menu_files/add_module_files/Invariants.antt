use Rattle.std.proofs.Common.{◌≡◌, ◌++◌, map, take}
use Rattle.c_abi.proofs.menu_files.add_module_files.Given as goal

-- the files of the modules so far
abbrev pub invariant-loop-module : goal.invariant-loop-module
invariant-loop-module g l =
    l.files.items ≡ l.fn.files.items ++ map (λ m. m.file) (take l.module-index l.modules)
