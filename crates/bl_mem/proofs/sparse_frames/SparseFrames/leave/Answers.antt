use Rattle.std.proofs.Common.{subst, sym, arith}
use Rattle.bl_mem.specs.SparseFrames.{SparseFramesFacts}
use Rattle.bl_mem.specs.internal.FrameSlots.{ArePair}
use Rattle.bl_mem.proofs.PairLemmas.{leaves}
use Rattle.std.proofs.lemmas.Grind.{common_steps}
use Rattle.bl_mem.proofs.sparse_frames.SparseFrames.leave.Goals as goal

pub invariant_of-self : goal.invariant_of-self
invariant_of-self g c =
    (leaves c.self.inside.fill c.self.inside.table.items c.self.inside.kept.items _ _ _
    c.self.invariant c.args.number c.args.other c.args.slot
    (subst (λ (facts : SparseFramesFacts). ArePair facts c.args.number c.args.other c.args.slot)
    (sym c.self.view_is) c.requires)).0

pub returns : goal.returns
returns g c =
    rw (← c.self.view_is)
    (leaves c.self.inside.fill c.self.inside.table.items c.self.inside.kept.items _ _ _
    c.self.invariant c.args.number c.args.other c.args.slot
    (subst (λ (facts : SparseFramesFacts). ArePair facts c.args.number c.args.other c.args.slot)
    (sym c.self.view_is) c.requires)).1

pub index_mut-requires : goal.index_mut-requires
index_mut-requires g c = grind (arith, common_steps)

pub index_mut-requires-2 : goal.index_mut-requires-2
index_mut-requires-2 g c = grind (arith, common_steps)
