use Rattle.std.proofs.Common.{rules}
use Rattle.bl_stage.proofs.stage.Stage.begin.Goals as goal

pub returns-in_default-clause-no_pool : goal.returns-in_default-clause-no_pool
returns-in_default-clause-no_pool g c = search rules
