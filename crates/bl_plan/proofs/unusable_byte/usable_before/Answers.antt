use Rattle.bl_plan.proofs.UnusableLemmas.{usable_up_to}
use Rattle.bl_plan.proofs.unusable_byte.usable_before.Goals as goal

pub returns-in-Some-clause-before : goal.returns-in-Some-clause-before
returns-in-Some-clause-before g c = usable_up_to _ _ _ c.in-Some.ensures.1
