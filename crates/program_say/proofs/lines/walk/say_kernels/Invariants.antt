use Rattle.std.proofs.Common.{◌≡◌, ◌++◌, take}
use Rattle.std.specs.List.{flat_map}
use Rattle.program_say.specs.WalkLines.{kernel_line}
use Rattle.program_say.proofs.lines.walk.say_kernels.Given as goal

abbrev pub invariant-loop-part : goal.invariant-loop-part
invariant-loop-part g l =
    l.out.items ≡ l.initial.out.items ++ flat_map kernel_line (take l.part-index l.parts)
