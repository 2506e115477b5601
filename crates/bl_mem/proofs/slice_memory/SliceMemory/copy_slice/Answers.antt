use Rattle.std.proofs.Common.{arith}
use Rattle.std.proofs.lemmas.Grind.{common_steps}
use Rattle.bl_mem.proofs.slice_memory.SliceMemory.copy_slice.Goals as goal

pub returns : goal.returns
returns c = grind (arith, common_steps)
