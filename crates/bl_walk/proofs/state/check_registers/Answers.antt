use Rattle.std.proofs.Common.{rules}
use Rattle.bl_walk.proofs.state.check_registers.Goals as goal

pub returns : goal.returns
returns g c = search rules
