use Rattle.std.proofs.Common.{sym}
use Rattle.bl_store.proofs.SubmissionRangeLemmas.{run_get, run_past}
use Rattle.bl_store.proofs.submission_range.SubmissionRange.at.Goals as goal

pub returns-then-place-self : goal.returns-then-place-self
returns-then-place-self c =
    rw (← c.self.view_is, c.later.ensures)
    (sym (run_get c.self.inside.first c.self.inside.count c.args.place c.if-place-self.true))

pub returns-else-place-self : goal.returns-else-place-self
returns-else-place-self c =
    rw (← c.self.view_is)
    (sym (run_past c.self.inside.first c.self.inside.count c.args.place c.if-place-self.false))
