use Rattle.bl_session.proofs.session_lemmas.BootLaws.{one_start, one_step}
use Rattle.bl_session.proofs.laws.steps_are_determined.Goals as goal

pub returns-clause-start : goal.returns-clause-start
returns-clause-start c = one_start

pub returns-clause-event : goal.returns-clause-event
returns-clause-event c = one_step
