use Rattle.std.proofs.Common.{refl, rules}
use Rattle.bl_mem.proofs.FrameLemmas.{over}
use Rattle.bl_mem.proofs.sparse_frames.SparseFrames.store_over.Goals as goal

pub returns : goal.returns
returns g c =
    over c.args.self.now c.store.new.self c.args.at _ c.args.part.now _ _ refl (search rules)
    c.read.ensures
    c.put_over.ensures c.store.ensures c.requires.one
