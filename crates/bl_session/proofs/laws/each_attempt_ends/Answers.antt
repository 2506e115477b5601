use Rattle.bl_session.proofs.attempt_lemmas.EndLaws.{some_end_in, some_end}
use Rattle.bl_session.proofs.laws.each_attempt_ends.Goals as goal

pub returns-clause-whole : goal.returns-clause-whole
returns-clause-whole c = some_end_in

pub returns-clause-attempt : goal.returns-clause-attempt
returns-clause-attempt c = some_end
