use Rattle.std.proofs.Common.{arith}
use Rattle.std.proofs.lemmas.Grind.{common_steps}
use Rattle.bl_mem.proofs.sparse.SparsePhysMem.copy.Goals as goal

pub returns-then-share_frame-clause-after : goal.returns-then-share_frame-clause-after
returns-then-share_frame-clause-after g c = grind (arith, common_steps)

pub returns-then-share_frame-clause-kept : goal.returns-then-share_frame-clause-kept
returns-then-share_frame-clause-kept g c = grind (arith, common_steps)

pub copy_by_buffer-requires-clause-few : goal.copy_by_buffer-requires-clause-few
copy_by_buffer-requires-clause-few g c = grind (arith, common_steps)

pub copy_by_buffer-requires-clause-source : goal.copy_by_buffer-requires-clause-source
copy_by_buffer-requires-clause-source g c = grind (arith, common_steps)

pub copy_by_buffer-requires-clause-inside : goal.copy_by_buffer-requires-clause-inside
copy_by_buffer-requires-clause-inside g c = grind (arith, common_steps)

pub copy_by_buffer-requires-clause-room : goal.copy_by_buffer-requires-clause-room
copy_by_buffer-requires-clause-room g c = grind (arith, common_steps)

pub returns-clause-after : goal.returns-clause-after
returns-clause-after g c = grind (arith, common_steps)

pub returns-clause-kept : goal.returns-clause-kept
returns-clause-kept g c = grind (arith, common_steps)
