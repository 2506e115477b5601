use Rattle.bl_session.proofs.session_lemmas.BootLaws.{some_start, some_step}
use Rattle.bl_session.proofs.laws.each_step_leads_on.Goals as goal

pub returns-clause-start : goal.returns-clause-start
returns-clause-start c = some_start

pub returns-clause-event : goal.returns-clause-event
returns-clause-event c = some_step
