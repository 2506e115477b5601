use Rattle.bl_store.proofs.SubmissionLemmas.{kept_submission}
use Rattle.bl_store.proofs.ledger.Ledger.submit.Goals as goal

pub invariant_of-self-2 : goal.invariant_of-self-2
invariant_of-self-2 g c =
    rw (c.in_ok-push.ensures.ok, c.and_submission-self-inside.ensures)
    (kept_submission (g.F.StoredFiles.files c.self.inside.files) c.self.inside.pending
    c.self.inside.history.items (record { file = c.args.file; ticket = c.args.ticket })
    c.self.invariant)
