use Rattle.std.proofs.Common.{ap, subst}
use Rattle.bl_mem.specs.SparseFrames.{frame_byte, IsWritten}
use Rattle.bl_mem.specs.Sparse.{SparseFacts}
use Rattle.bl_mem.proofs.ValueLemmas.{values_overwritten}
use Rattle.bl_mem.proofs.sparse.Sparse.write_frame.Goals as goal

pub returns : goal.returns
returns g c =
    let this = c.args.self.now in
    let written =
    subst (λ (facts : SparseFacts). IsWritten facts.frames c.write.new.self c.args.at
    c.args.part.now) c.self.view_is c.write.ensures in
    let size = ap (λ (facts : SparseFacts). facts.size) c.self.view_is in
    record {
      after =
          rw size
          (values_overwritten (frame_byte this.frames) (frame_byte c.write.new.self) this.size
          c.args.at c.args.part.now c.requires.inside written.inside written.below written.above);
      kept = written.room;
      size = size;
    }
