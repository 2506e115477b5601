use Rattle.std.proofs.Common.{arith}
use Rattle.bl_walk.proofs.PageLemmas.{pages_keep}
use Rattle.bl_walk.proofs.state.moved_page.Goals as goal

pub returns : goal.returns
returns c =
    pages_keep c.args.tables.now c.args.base (λ k below. c.loop-page.invariant k (omega arith))
