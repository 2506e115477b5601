use Rattle.std.proofs.Common.{rules}
use Rattle.bl_load.specs.WellFormedEntry.{IsWellFormedEntry}
use Rattle.bl_load.specs.EntryValue.{IsWithinLimits}
use Rattle.bl_session.proofs.menu.lines_and_copies.entry_is_well_formed.Goals as goal

pub returns-in-Multiboot2 : goal.returns-in-Multiboot2
unfolding IsWellFormedEntry IsWithinLimits
returns-in-Multiboot2 g c = search rules
