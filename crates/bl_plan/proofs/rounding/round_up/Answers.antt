use Rattle.std.proofs.Common.{arith}
use Rattle.std.proofs.lemmas.Grind.{common_steps}
use Rattle.bl_plan.proofs.Align.{least_multiple, up_multiple}
use Rattle.bl_plan.proofs.rounding.round_up.Goals as goal

pub returns-clause-aligned : goal.returns-clause-aligned
returns-clause-aligned c = grind (arith, common_steps, up_multiple, least_multiple)

pub returns-clause-least : goal.returns-clause-least
returns-clause-least c = grind (arith, common_steps, up_multiple, least_multiple)
