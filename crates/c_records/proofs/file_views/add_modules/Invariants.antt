use Rattle.std.proofs.Common.{◌≡◌, ◌++◌, map, take}
use Rattle.c_records.proofs.file_views.add_modules.Given as goal

-- the files of the modules so far
abbrev pub invariant-loop-module : goal.invariant-loop-module
invariant-loop-module g l =
    map (λ v. v.bytes.now) l.views.items
    ≡ map (λ v. v.bytes.now) l.fn.views.items
    ++ map (λ file. file.bytes.now) (map (λ m. m.file) (take l.module-index l.modules))
