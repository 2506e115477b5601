use Rattle.std.proofs.Common.{refl}
use Rattle.bl_mem.proofs.ValueLemmas.{constant_values}
use Rattle.bl_mem.proofs.sparse.Sparse.new.Goals as goal

pub returns-clause-exact : goal.returns-clause-exact
returns-clause-exact g c =
    constant_values _ c.args.size c.args.fill (λ a. rw c.new.ensures refl)
