use Rattle.bl_store.proofs.PendingLemmas.{placed_get}
use Rattle.bl_store.proofs.pending.Pending.at.Goals as goal

pub returns : goal.returns
returns g c =
    rw (c.at.ensures, ← c.self.view_is)
    (placed_get c.self.inside.runs.items c.deref.result.now c.args.place c.in_ok-index.index
    c.in_ok-index.at c.index.result.now c.deref.ensures.value c.in_ok-index.ensures.some
    c.index.ensures)
