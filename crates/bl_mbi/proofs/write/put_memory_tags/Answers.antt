use Rattle.std.proofs.Common.{arith}
use Rattle.std.proofs.lemmas.Grind.{common_steps}
use Rattle.bl_mbi.proofs.write.put_memory_tags.Goals as goal

pub returns : goal.returns
returns g c = grind (arith, common_steps)
