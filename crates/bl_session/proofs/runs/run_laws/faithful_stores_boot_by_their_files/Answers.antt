use Rattle.std.proofs.Common.{None, []}
use Rattle.bl_session.proofs.run_lemmas.ScheduleLaws.{run_ended}
use Rattle.bl_session.proofs.run_lemmas.FaithfulLaws.{faithful_is_genuine}
use Rattle.bl_session.proofs.runs.run_laws.faithful_stores_boot_by_their_files.Goals as goal

pub returns-clause-genuine : goal.returns-clause-genuine
returns-clause-genuine c = λ facts files new known. faithful_is_genuine facts files known new

pub returns-clause-exact : goal.returns-clause-exact
returns-clause-exact c = λ facts files new end known faithful run ended.
    run_ended facts files (λ attempt. None) known [] new end run
    (faithful_is_genuine facts files known new faithful) ended
