use Rattle.std.proofs.Common.{length}
use Rattle.bl_load.proofs.multiboot2.rows.kernel.+low_of.Given as goal

abbrev pub decreases-low_of : goal.decreases-low_of
decreases-low_of l = length l.segments.now
