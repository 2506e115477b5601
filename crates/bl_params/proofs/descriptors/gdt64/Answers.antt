use Rattle.std.proofs.Common.{refl}
use Rattle.bl_params.proofs.descriptors.gdt64.Goals as goal

pub returns : goal.returns
returns c = refl
