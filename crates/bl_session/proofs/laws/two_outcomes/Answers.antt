use Rattle.bl_session.proofs.session_lemmas.OutcomeLaws.{is_handover, same_handover}
use Rattle.bl_session.proofs.laws.two_outcomes.Goals as goal

pub returns-clause-handover : goal.returns-clause-handover
returns-clause-handover c = is_handover

pub returns-clause-same : goal.returns-clause-same
returns-clause-same c = same_handover
