use Rattle.std.proofs.Common.{arith}
use Rattle.std.proofs.lemmas.Grind.{common_steps}
use Rattle.bl_mbi.proofs.tag_writer.put_runs.Goals as goal

pub loop-run-init : goal.loop-run-init
loop-run-init g c = grind (arith, common_steps)

pub loop-run-preserved : goal.loop-run-preserved
loop-run-preserved g c = grind (arith, common_steps)

pub returns : goal.returns
returns g c = grind (arith, common_steps)
