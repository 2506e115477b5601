use Rattle.bl_session.proofs.attempt_lemmas.EndLaws.{one_end_in, one_end}
use Rattle.bl_session.proofs.laws.ends_are_determined.Goals as goal

pub returns-clause-whole : goal.returns-clause-whole
returns-clause-whole c = one_end_in

pub returns-clause-attempt : goal.returns-clause-attempt
returns-clause-attempt c = one_end
