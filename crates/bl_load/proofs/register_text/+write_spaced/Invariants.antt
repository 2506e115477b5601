use Rattle.std.proofs.Common.{length}
use Rattle.bl_load.proofs.register_text.+write_spaced.Given as goal

abbrev pub decreases-write_spaced : goal.decreases-write_spaced
decreases-write_spaced g l = length l.registers.now
