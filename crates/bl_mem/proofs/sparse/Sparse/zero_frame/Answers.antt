use Rattle.std.proofs.Common.{ap, replicate, subst}
use Rattle.std.proofs.lemmas.List.{length-replicate}
use Rattle.bl_mem.specs.SparseFrames.{frame_byte, IsWritten}
use Rattle.bl_mem.specs.Sparse.{SparseFacts}
use Rattle.bl_mem.proofs.ValueLemmas.{values_overwritten}
use Rattle.bl_mem.proofs.sparse.Sparse.zero_frame.Goals as goal

pub returns : goal.returns
returns g c =
    let this = c.args.self.now in
    let written =
    subst (λ (facts : SparseFacts). IsWritten facts.frames c.zero.new.self c.args.at
    (replicate c.args.count 0)) c.self.view_is c.zero.ensures in
    let size = ap (λ (facts : SparseFacts). facts.size) c.self.view_is in
    record {
      after =
          rw size
          (values_overwritten (frame_byte this.frames) (frame_byte c.zero.new.self) this.size
          c.args.at (replicate c.args.count 0) (rw length-replicate c.requires.inside)
          written.inside written.below written.above);
      kept = written.room;
      size = size;
    }
