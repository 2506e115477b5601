use Rattle.bl_session.proofs.session_lemmas.FirstEndLaws.{first_ended}
use Rattle.bl_session.proofs.session_lemmas.OutcomeLaws.{one_outcome}
use Rattle.bl_session.proofs.laws.first_entry_not_refused.Goals as goal

pub returns-clause-exact : goal.returns-clause-exact
returns-clause-exact c = λ facts files faults events begun end known begins genuine leads ended.
    first_ended facts files faults known events begun end begins genuine leads ended

pub returns-clause-one : goal.returns-clause-one
returns-clause-one c = one_outcome
