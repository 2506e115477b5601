use Rattle.std.proofs.lemmas.Grind.{common_steps}
use Rattle.std.proofs.Common.{arith}
use Rattle.std.proofs.lemmas.List.{take_all}
use Rattle.bl_mem.proofs.SoundLemmas.{sound_grown}
use Rattle.bl_mem.proofs.sparse_frames.SparseFrames.reach.Goals as goal

pub invariant_of-self : goal.invariant_of-self
invariant_of-self g c =
    let table = c.self.inside.table.items in
    rw (c.in_ok-resize.ensures.items, take_all c.args.end table (omega arith))
    (sound_grown table _ c.self.inside.owed _ _ c.self.invariant)

pub invariant_of-self-in_err-resize : goal.invariant_of-self-in_err-resize
invariant_of-self-in_err-resize g c = grind (arith, common_steps)

pub returns-in_err-resize-clause-kept : goal.returns-in_err-resize-clause-kept
returns-in_err-resize-clause-kept g c = grind (arith, common_steps)

pub returns-in_err-resize-clause-made : goal.returns-in_err-resize-clause-made
returns-in_err-resize-clause-made g c = grind (arith, common_steps)

pub returns-in_ok-resize-clause-kept : goal.returns-in_ok-resize-clause-kept
returns-in_ok-resize-clause-kept g c = grind (arith, common_steps)

pub returns-in_ok-resize-clause-made : goal.returns-in_ok-resize-clause-made
returns-in_ok-resize-clause-made g c = grind (arith, common_steps)

pub returns-else-len-end-clause-kept : goal.returns-else-len-end-clause-kept
returns-else-len-end-clause-kept g c = grind (arith, common_steps)

pub returns-else-len-end-clause-made : goal.returns-else-len-end-clause-made
returns-else-len-end-clause-made g c = grind (arith, common_steps)
