use Rattle.bl_session.proofs.session_lemmas.EndedLemmas.{fault_ends}
use Rattle.bl_session.proofs.session.SessionOver.outcome.Goals as goal

pub returns-in-HandedOver-clause-end : goal.returns-in-HandedOver-clause-end
returns-in-HandedOver-clause-end g c = rw (← c.self.view_is, c.in-HandedOver.is)

pub returns-in-HandedOver-clause-inside : goal.returns-in-HandedOver-clause-inside
returns-in-HandedOver-clause-inside g c =
    rw (← c.self.view_is) (rw c.in-HandedOver.is at c.self.invariant)

pub returns-in-Failed-clause-end : goal.returns-in-Failed-clause-end
returns-in-Failed-clause-end g c =
    rw (← c.self.view_is, c.in-Failed.is) (fault_ends c.in-Failed.fault)
