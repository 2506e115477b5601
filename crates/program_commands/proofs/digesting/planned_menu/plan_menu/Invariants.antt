use Rattle.std.proofs.Common.{[], drop, map}
use Rattle.bl_stage.specs.Files.{size_of, stored_files}
use Rattle.bl_session.specs.session.BootSteps.{BootFacts, State}
use Rattle.bl_session.specs.session.Outcome.{IsFirst}
use Rattle.bl_session.specs.session.Phases.{boot_facts}
use Rattle.bl_session.specs.session.Schedules.{no_fault}
use Rattle.program_commands.proofs.digesting.planned_menu.plan_menu.Given as goal

-- what the attempts that are left come to, after the refusals so far, all come to
abbrev pub invariant-loop-number : goal.invariant-loop-number
invariant-loop-number g l =
    let files = stored_files l.files in
    let facts : BootFacts = boot_facts l.machine l.menu (map size_of files) in
    (state : State)
    → IsFirst facts files no_fault (drop l.number l.menu.attempts) l.refused.items state
    → IsFirst facts files no_fault l.menu.attempts [] state
