use Rattle.std.proofs.Common.{arith}
use Rattle.program_commands.proofs.machine_map.map_to.Goals as goal

pub returns-in-Ok-clause-described : goal.returns-in-Ok-clause-described
returns-in-Ok-clause-described g c = λ other. absurd (omega (arith, other))
