use Rattle.std.proofs.Common.{subst}
use Rattle.std.specs.Prelude.{IfSome}
use Rattle.bl_mem.specs.SparseFrames.{AreLentBytes}
use Rattle.bl_mem.specs.Sparse.{SparseFacts}
use Rattle.bl_mem.proofs.SparseLemmas.{lent_on}
use Rattle.bl_mem.proofs.sparse.SparsePhysMem.lend.Goals as goal

pub returns : goal.returns
returns g c =
    let this = c.args.self.now in
    let lent =
    subst (λ (facts : SparseFacts). IfSome c.lend.result
    (λ piece. AreLentBytes facts.frames c.args.at c.args.count piece.now)) c.self.view_is
    c.lend.ensures in
    lent_on this.frames this.size c.args.at c.args.count c.lend.result (λ piece. piece.now)
    c.requires lent
