use Rattle.bl_mem.proofs.FrameLemmas.{stored, put_whole}
use Rattle.bl_mem.proofs.sparse_frames.SparseFrames.store_alone.Goals as goal

pub returns-in-Plain : goal.returns-in-Plain
returns-in-Plain g c =
    stored c.args.self.now c.append.new.self c.args.number _ c.args.part.now c.append.ensures.after
    c.append.ensures.bytes

pub returns-in-Kept : goal.returns-in-Kept
returns-in-Kept g c =
    let part = c.args.part.now in
    stored c.args.self.now c.rewrite.new.self c.args.number c.in-Kept.slot part
    c.rewrite.ensures.after
    (rw c.rewrite.ensures.bytes
    (put_whole c.args.self.now.kept part c.in-Kept.slot c.requires.whole
    c.rewrite.ensures.within))

pub returns-in-Wiped : goal.returns-in-Wiped
returns-in-Wiped g c =
    let part = c.args.part.now in
    stored c.args.self.now c.rewrite-in-Wiped.new.self c.args.number c.in-Wiped.slot part
    c.rewrite-in-Wiped.ensures.after
    (rw c.rewrite-in-Wiped.ensures.bytes
    (put_whole c.args.self.now.kept part c.in-Wiped.slot c.requires.whole
    c.rewrite-in-Wiped.ensures.within))
