use Rattle.bl_session.proofs.run_lemmas.ScheduleLaws.{run_schedule, run_ended, runs_alike}
use Rattle.bl_session.proofs.runs.run_laws.runs_end_with_the_first_entry_not_refused.Goals as goal

pub returns-clause-schedule : goal.returns-clause-schedule
returns-clause-schedule c = run_schedule

pub returns-clause-exact : goal.returns-clause-exact
returns-clause-exact c = λ facts files faults old new end known run genuine ended.
    run_ended facts files faults known old new end run genuine ended

pub returns-clause-same : goal.returns-clause-same
returns-clause-same c =
    λ facts files faults old new before after a b known mine genuine ended other faithful done.
    runs_alike facts files faults known old new before after a b mine genuine ended other faithful
    done
