use Rattle.std.proofs.Common.{◌≡◌, ◌++◌, take}
use Rattle.std.specs.List.{flat_map}
use Rattle.program_say.specs.WalkLines.{module_line}
use Rattle.program_say.proofs.lines.walk.say_modules.Given as goal

abbrev pub invariant-loop-module : goal.invariant-loop-module
invariant-loop-module g l =
    l.out.items ≡ l.initial.out.items ++ flat_map module_line (take l.module-index l.modules)
