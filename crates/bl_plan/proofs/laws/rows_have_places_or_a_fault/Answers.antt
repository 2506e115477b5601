use Rattle.bl_plan.proofs.TotalLaws.{placed_or_fault}
use Rattle.bl_plan.proofs.laws.rows_have_places_or_a_fault.Goals as goal

pub returns : goal.returns
returns c = placed_or_fault
