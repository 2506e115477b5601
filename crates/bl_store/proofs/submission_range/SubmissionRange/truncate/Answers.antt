use Rattle.std.proofs.Common.{length, sym, ap, arith}
use Rattle.std.proofs.lemmas.List.{take_all}
use Rattle.bl_store.proofs.SubmissionRangeLemmas.{run_take, run_length}
use Rattle.bl_store.proofs.submission_range.SubmissionRange.truncate.Goals as goal

pub returns-then-count-self : goal.returns-then-count-self
returns-then-count-self c =
    rw (← c.self.view_is)
    (sym (run_take c.self.inside.first c.self.inside.count c.args.count (omega arith)))

pub returns-else-count-self : goal.returns-else-count-self
returns-else-count-self c =
    sym
    (take_all c.args.count c.args.self.now
    (omega
    (arith, ap length (sym c.self.view_is), run_length c.self.inside.first c.self.inside.count)))
