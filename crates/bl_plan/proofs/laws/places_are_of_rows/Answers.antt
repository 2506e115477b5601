use Rattle.bl_plan.proofs.PlaceLaws.{as_many, of_rows}
use Rattle.bl_plan.proofs.laws.places_are_of_rows.Goals as goal

pub returns-clause-as_many : goal.returns-clause-as_many
returns-clause-as_many c = as_many

pub returns-clause-of_rows : goal.returns-clause-of_rows
returns-clause-of_rows c = of_rows
