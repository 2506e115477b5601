use Rattle.std.proofs.Common.{sym}
use Rattle.bl_mem.proofs.FrameLemmas.{written}
use Rattle.bl_mem.proofs.sparse_frames.SparseFrames.write.Goals as goal

pub returns-in-Kept : goal.returns-in-Kept
returns-in-Kept g c =
    written c.args.self.now c.rewrite.new.self c.args.at c.in-Kept.slot c.args.part.now
    (sym c.in-Kept.ensures) c.rewrite.ensures.after c.rewrite.ensures.bytes
    c.rewrite.ensures.within c.requires.one
