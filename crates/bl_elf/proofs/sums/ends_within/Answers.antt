use Rattle.std.proofs.Common.{rules}
use Rattle.bl_elf.proofs.sums.ends_within.Goals as goal

pub returns : goal.returns
returns c = search rules
