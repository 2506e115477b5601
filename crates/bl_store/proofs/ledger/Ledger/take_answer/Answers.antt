use Rattle.bl_store.proofs.LedgerLemmas.{kept_at}
use Rattle.bl_store.proofs.ledger.Ledger.take_answer.Goals as goal

pub invariant_of-self-2 : goal.invariant_of-self-2
invariant_of-self-2 g c =
    let inside = c.self.inside in
    rw (c.in_ok-remove.ensures.ok, c.and_answer-self-inside.ensures)
    (kept_at (g.F.StoredFiles.files inside.files) inside.pending c.args.at inside.history.items
    c.in_ok-answer.answer (rw (← c.self.view_is) at c.requires)
    (rw (← c.self.view_is) at c.in_ok-answer.ensures) c.self.invariant)
