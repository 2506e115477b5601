use Rattle.std.proofs.Common.{refl, sym}
use Rattle.program_desc.specs.Views.{entry_view}
use Rattle.program_boots.proofs.explaining.refusal_details.detail_at.Goals as goal

pub detail_of-requires : goal.detail_of-requires
detail_of-requires g c = c.requires (entry_view c.in-Some.row.now) (sym c.in-Some.ensures)

pub returns-in-Some : goal.returns-in-Some
returns-in-Some g c = rw (← c.in-Some.ensures) c.detail_of.ensures

pub returns-in-None : goal.returns-in-None
returns-in-None g c = rw (← c.in-None.ensures) refl
