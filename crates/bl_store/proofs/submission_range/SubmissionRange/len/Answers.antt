use Rattle.std.proofs.Common.{length, sym, ap, ◌∙◌}
use Rattle.bl_store.proofs.SubmissionRangeLemmas.{run_length}
use Rattle.bl_store.proofs.submission_range.SubmissionRange.len.Goals as goal

pub returns : goal.returns
returns c =
    sym (ap length (sym c.self.view_is) ∙ run_length c.self.inside.first c.self.inside.count)
