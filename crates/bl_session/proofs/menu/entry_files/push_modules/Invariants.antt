use Rattle.std.proofs.Common.{◌≡◌, ◌++◌, map, take}
use Rattle.bl_session.proofs.menu.entry_files.push_modules.Given as goal

-- so far
abbrev pub invariant-loop-module : goal.invariant-loop-module
invariant-loop-module g l =
    l.files.items ≡ l.initial.files.items ++ map (λ m. m.file) (take l.module-index l.modules)
