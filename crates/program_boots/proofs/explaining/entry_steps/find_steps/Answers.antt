use Rattle.std.proofs.Common.{sym}
use Rattle.program_desc.specs.Views.{entry_view}
use Rattle.program_boots.proofs.explaining.entry_steps.find_steps.Goals as goal

pub steps_of-requires : goal.steps_of-requires
steps_of-requires g c = c.requires (entry_view c.in-Some.row.now) (sym c.in-Some.ensures)

pub returns-in-Some : goal.returns-in-Some
returns-in-Some g c = rw (← c.in-Some.ensures) c.steps_of.ensures

pub returns-in-None : goal.returns-in-None
returns-in-None g c = rw (← c.in-None.ensures) c.new.ensures.items
