use Rattle.std.proofs.Common.{length}
use Rattle.bl_load.proofs.multiboot2.rows.kernel.+high_of.Given as goal

abbrev pub decreases-high_of : goal.decreases-high_of
decreases-high_of l = length l.segments.now
