use Rattle.std.proofs.Common.{length}
use Rattle.bl_session.proofs.menu.lines_and_copies.+entries_are_well_formed.Given as goal

abbrev pub decreases-entries_are_well_formed : goal.decreases-entries_are_well_formed
decreases-entries_are_well_formed g l = length l.entries.now
