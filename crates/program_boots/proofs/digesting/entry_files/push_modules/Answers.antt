use Rattle.std.proofs.Common.{arith}
use Rattle.std.proofs.lemmas.Grind.{common_steps}
use Rattle.program_boots.proofs.digesting.entry_files.push_modules.Goals as goal

pub loop-module-preserved : goal.loop-module-preserved
loop-module-preserved g c = grind (arith, common_steps)

pub returns : goal.returns
returns g c = grind (arith, common_steps)
