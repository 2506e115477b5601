use Rattle.std.proofs.Common.{IfOk}
use Rattle.std.proofs.lemmas.Result.{IfOk-weaker}
use Rattle.bl_load.specs.PlanSteps.{AreStepsOf}
use Rattle.bl_load.proofs.StepLemmas.{carry_plan}
use Rattle.bl_load.proofs.StepSourceLemmas.{can_be_told, plan_ascends, plan_sound, plan_whole}
use Rattle.bl_load.proofs.plan.Plan.steps.Goals as goal

pub steps_of-requires : goal.steps_of-requires
steps_of-requires g c =
    let can = c.requires in
    rw c.as_slice.ensures.value (can_be_told can.0 can.1 c.args.self.now can.2)

-- what was told are the steps of the plan's parts
are_steps : (g : _) (c : goal.After-steps_of g)
    → IfOk c.steps_of.result (λ told. AreStepsOf c.args.self.now.parts.items told)
are_steps g c = rw c.as_slice.ensures.value at c.steps_of.ensures

pub returns-clause-carried_out : goal.returns-clause-carried_out
returns-clause-carried_out g c =
    IfOk-weaker c.steps_of.result _ _
    (λ told is. λ texts size memory loadable inside.
    rw (is.steps, is.own) (carry_plan texts size c.args.self.now memory loadable inside))
    (are_steps g c)

pub returns-clause-sound : goal.returns-clause-sound
returns-clause-sound g c =
    IfOk-weaker c.steps_of.result _ _
    (λ told is. λ lengths size loadable.
    rw (is.steps, is.own) (plan_sound lengths size c.args.self.now loadable)) (are_steps g c)

pub returns-clause-ascending : goal.returns-clause-ascending
returns-clause-ascending g c =
    let can = c.requires in
    IfOk-weaker c.steps_of.result _ _
    (λ told is. rw is.steps (plan_ascends can.0 can.1 c.args.self.now can.2)) (are_steps g c)

pub returns-clause-whole : goal.returns-clause-whole
returns-clause-whole g c =
    let can = c.requires in
    IfOk-weaker c.steps_of.result _ _
    (λ told is. rw is.steps (plan_whole can.0 can.1 c.args.self.now can.2)) (are_steps g c)

pub returns-clause-steps : goal.returns-clause-steps
returns-clause-steps g c =
    IfOk-weaker c.steps_of.result _ _
    (λ told is. is.steps) (are_steps g c)

pub returns-clause-own : goal.returns-clause-own
returns-clause-own g c =
    IfOk-weaker c.steps_of.result _ _
    (λ told is. is.own) (are_steps g c)
