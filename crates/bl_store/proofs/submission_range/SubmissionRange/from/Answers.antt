use Rattle.std.proofs.Common.{length, sym, ap, arith}
use Rattle.bl_store.proofs.SubmissionRangeLemmas.{run_drop, run_length}
use Rattle.bl_store.proofs.submission_range.SubmissionRange.from.Goals as goal

pub overflow_cast-place : goal.overflow_cast-place
overflow_cast-place c =
    omega (arith, ap length c.self.view_is, run_length c.self.inside.first c.self.inside.count)

pub later-requires : goal.later-requires
later-requires c =
    omega (arith, ap length c.self.view_is, run_length c.self.inside.first c.self.inside.count)

pub overflow_sub-result : goal.overflow_sub-result
overflow_sub-result c =
    omega (arith, ap length c.self.view_is, run_length c.self.inside.first c.self.inside.count)

pub invariant_of-result : goal.invariant_of-result
invariant_of-result c =
    let long = run_length c.self.inside.first c.self.inside.count in
    let all = ap length c.self.view_is in
    rw (c.later.ensures) (omega arith, omega arith)

pub returns : goal.returns
returns c =
    let within = overflow_sub-result c in
    rw (← c.self.view_is, c.later.ensures)
    (sym (run_drop c.self.inside.first c.self.inside.count c.args.place within))
