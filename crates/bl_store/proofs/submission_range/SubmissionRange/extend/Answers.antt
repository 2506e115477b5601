use Rattle.std.proofs.Common.{◌∷◌, ◌++◌, [], refl, sym, ap, ◌∙◌, arith}
use Rattle.bl_store.specs.declared.submission.Submission.{Submission}
use Rattle.bl_store.specs.internal.SubmissionRanges.{submissions_from}
use Rattle.bl_store.proofs.SubmissionRangeLemmas.{run_goes_on, run_more}
use Rattle.bl_store.proofs.submission_range.SubmissionRange.extend.Goals as goal

pub returns-then-not-is_later-clause-goes_on : goal.returns-then-not-is_later-clause-goes_on
returns-then-not-is_later-clause-goes_on c =
    let goes_on =
    run_goes_on c.self.inside.first c.self.inside.count c.args.submission.now
    c.self.invariant.0 in
    rw (← c.self.view_is) (
      (λ yes. goes_on.1 (c.if-not-is_later.ensures.later.0 yes)),
      (λ it. c.if-not-is_later.ensures.later.1 (goes_on.0 it)),
    )

pub invariant_of-self : goal.invariant_of-self
invariant_of-self c =
    let fits = c.if-not-is_later.ensures.fits refl in
    (omega arith, omega arith)

pub returns-clause-goes_on : goal.returns-clause-goes_on
returns-clause-goes_on c =
    let goes_on =
    run_goes_on c.self.inside.first c.self.inside.count c.args.submission.now
    c.self.invariant.0 in
    rw (← c.self.view_is) (
      (λ yes. goes_on.1 (c.if-not-is_later.ensures.later.0 yes)),
      (λ it. c.if-not-is_later.ensures.later.1 (goes_on.0 it)),
    )

pub returns-clause-after : goal.returns-clause-after
returns-clause-after c =
    let is = c.if-not-is_later.ensures.later.0 refl in
    rw (← c.self.view_is)
    (run_more c.self.inside.first c.self.inside.count
    ∙ ap (λ (s : Submission). submissions_from c.self.inside.first c.self.inside.count ++ s ∷ [])
    (sym is))
