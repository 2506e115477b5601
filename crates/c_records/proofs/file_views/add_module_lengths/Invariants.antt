use Rattle.std.proofs.Common.{◌≡◌, ◌++◌, map, take}
use Rattle.c_records.proofs.file_views.add_module_lengths.Given as goal

-- the lengths of the modules' files so far
abbrev pub invariant-loop-module : goal.invariant-loop-module
invariant-loop-module g l =
    l.lengths.items
    ≡ l.fn.lengths.items
    ++ map (λ file. file.length) (map (λ m. m.file) (take l.module-index l.modules))
