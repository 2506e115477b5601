use Rattle.std.proofs.Common.{arith}
use Rattle.std.proofs.lemmas.Grind.{common_steps}
use Rattle.bl_bzimage.proofs.setup_header_bytes.header_upto.Goals as goal

pub returns : goal.returns
returns g c = grind (arith, common_steps)
