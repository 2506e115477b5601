use Rattle.std.proofs.Common.{arith}
use Rattle.std.proofs.lemmas.Grind.{common_steps}
use Rattle.bl_mem.proofs.file_set.ViewsFileSet.lend.Goals as goal

pub offset_bounds-self-file : goal.offset_bounds-self-file
offset_bounds-self-file g c = grind (arith, common_steps)

pub bounds-self-file : goal.bounds-self-file
bounds-self-file g c = grind (arith, common_steps)

pub lend-requires : goal.lend-requires
lend-requires g c = grind (arith, common_steps)

pub returns : goal.returns
returns g c = grind (arith, common_steps)
