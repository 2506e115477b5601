use Rattle.std.proofs.Common.{◌/◌, ap, subst}
use Rattle.bl_mem.specs.SparseFrames.{IsShared}
use Rattle.bl_mem.specs.Sparse.{SparseFacts}
use Rattle.bl_mem.proofs.SparseLemmas.{shared_bytes}
use Rattle.bl_mem.proofs.sparse.Sparse.share_frame.Goals as goal

pub returns-clause-shared : goal.returns-clause-shared
returns-clause-shared g c = λ yes.
    let this = c.args.self.now in
    let is =
    subst (λ (facts : SparseFacts). IsShared facts.frames c.share.new.self (c.args.from / 4096)
    (c.args.to / 4096)) c.self.view_is (c.share.ensures.shared yes) in
    let size = ap (λ (facts : SparseFacts). facts.size) c.self.view_is in
    record {
      after =
          rw size
          (shared_bytes this.frames c.share.new.self this.size c.args.from c.args.to
          c.requires.source c.requires.inside c.requires.frames.0 c.requires.frames.1 is);
      kept = is.room;
      size = size;
    }
