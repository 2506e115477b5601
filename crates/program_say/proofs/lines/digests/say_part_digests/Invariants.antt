use Rattle.std.proofs.Common.{◌≡◌, ◌++◌, take}
use Rattle.std.specs.List.{flat_map}
use Rattle.program_say.specs.DigestLines.{part_digest_line}
use Rattle.program_say.proofs.lines.digests.say_part_digests.Given as goal

abbrev pub invariant-loop-part : goal.invariant-loop-part
invariant-loop-part g l =
    l.out.items ≡ l.initial.out.items ++ flat_map part_digest_line (take l.part-index l.parts)
