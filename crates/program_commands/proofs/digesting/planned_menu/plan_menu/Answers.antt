use Rattle.std.proofs.Common.{◌<◌, ◌≤◌, arith, length, refl}
use Rattle.std.proofs.lemmas.List.{drop_all}
use Rattle.bl_stage.specs.Files.{stored_files}
use Rattle.bl_session.specs.menu.Menu.{facts_of}
use Rattle.program_boots.proofs.digesting_lemmas.MenuPlanLemmas.{handed_here, refused_here}
use Rattle.program_commands.proofs.digesting.planned_menu.plan_menu.Goals as goal

pub returns-in-Ok-clause-outcome : goal.returns-in-Ok-clause-outcome
returns-in-Ok-clause-outcome g c =
    let within : c.loop-number.number < length c.args.menu.now.attempts = omega arith in
    c.loop-number.invariant _
    (handed_here c.args.machine.now c.args.menu.now (stored_files c.args.files.now)
    c.loop-number.number c.entry_of-entry.result (facts_of c.entry.result.now)
    c.loop-number.refused.items within (c.entry_of-entry.ensures.entry 0)
    c.entry.ensures.entry c.in-Ok.plan c.in-Ok.ensures.planned)

pub loop-number-preserved : goal.loop-number-preserved
loop-number-preserved g c =
    let within : c.loop-number.number < length c.args.menu.now.attempts = omega arith in
    λ state further.
    c.loop-number.invariant state
    (refused_here c.args.machine.now c.args.menu.now (stored_files c.args.files.now)
    c.loop-number.number c.entry_of-entry.result (facts_of c.entry.result.now)
    c.loop-number.refused.items within (c.entry_of-entry.ensures.entry 0)
    c.entry.ensures.entry c.in-Err-Refused.refusal state
    (rw c.in-Err-Refused.field-0-is at c.in-Err-Refused.ensures.fault)
    (rw c.in_ok-push-in-Err-Refused.ensures.items at further))

pub returns-clause-outcome : goal.returns-clause-outcome
returns-clause-outcome g c =
    let past : length c.args.menu.now.attempts ≤ c.loop-number.number = omega arith in
    c.loop-number.invariant _ (rw (drop_all c.loop-number.number c.args.menu.now.attempts past) refl)
