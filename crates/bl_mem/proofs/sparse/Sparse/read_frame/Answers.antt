use Rattle.std.proofs.Common.{◌+◌, length, slice_range, ap, ◌∙◌, arith, rules, subst, ◌≡◌}
use Rattle.bl_mem.specs.SparseFrames.{frame_byte, AreBytesAt}
use Rattle.bl_mem.specs.Sparse.{bytes_of, SparseFacts}
use Rattle.bl_mem.proofs.ValueLemmas.{values_range}
use Rattle.bl_mem.proofs.sparse.Sparse.read_frame.Goals as goal

pub returns : goal.returns
returns g c =
    let this = c.args.self.now in
    let len : length c.read.new.out ≡ length c.args.out.now = search rules in
    let read =
    subst (λ (facts : SparseFacts). AreBytesAt (frame_byte facts.frames) c.args.at c.read.new.out)
    c.self.view_is c.read.ensures in
    values_range (frame_byte this.frames) this.size c.args.at c.read.new.out
    (omega (arith, len, c.requires.inside)) read
    ∙ ap (λ n. slice_range (bytes_of this.frames this.size) c.args.at (c.args.at + n)) len
