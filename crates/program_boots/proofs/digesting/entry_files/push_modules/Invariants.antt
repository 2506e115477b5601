use Rattle.std.proofs.Common.{◌≡◌, ◌++◌, map, take}
use Rattle.program_boots.proofs.digesting.entry_files.push_modules.Given as goal

-- so far
abbrev pub invariant-loop-module : goal.invariant-loop-module
invariant-loop-module g l =
    l.indices.items ≡ l.initial.indices.items ++ map (λ m. m.file) (take l.module-index l.modules)
