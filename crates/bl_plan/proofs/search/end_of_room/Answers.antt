use Rattle.std.proofs.Common.{rules}
use Rattle.bl_plan.proofs.search.end_of_room.Goals as goal

pub returns-clause-high : goal.returns-clause-high
returns-clause-high g c = search rules
