use Rattle.bl_plan.proofs.unusable_byte.first_avoided.Goals as goal

pub returns-clause-before : goal.returns-clause-before
returns-clause-before g c = rw c.avoided.ensures.avoided at c.first_in.ensures.before
