use Rattle.std.proofs.Common.{refl}
use Rattle.bl_mem.proofs.flat.FlatPhysMem.reserve.Goals as goal

pub returns-clause-same : goal.returns-clause-same
returns-clause-same g c = refl
