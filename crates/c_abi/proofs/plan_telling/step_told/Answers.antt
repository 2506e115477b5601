use Rattle.std.proofs.Common.{rules}
use Rattle.c_abi.proofs.plan_telling.step_told.Goals as goal

pub returns-in-Own : goal.returns-in-Own
returns-in-Own c = search rules
