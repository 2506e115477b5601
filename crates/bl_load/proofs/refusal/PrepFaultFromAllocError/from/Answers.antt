use Rattle.std.proofs.Common.{refl}
use Rattle.bl_load.proofs.refusal.PrepFaultFromAllocError.from.Goals as goal

pub returns : goal.returns
returns c = refl
