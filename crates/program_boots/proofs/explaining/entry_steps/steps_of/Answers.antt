use Rattle.bl_load.proofs.HandoverLaws.{not_both}
use Rattle.program_desc.specs.Views.{entry_view}
use Rattle.program_boots.specs.explaining.Details.{value_sought}
use Rattle.program_boots.proofs.explaining.entry_steps.steps_of.Goals as goal

pub unreachable-requires : goal.unreachable-requires
unreachable-requires g c =
    not_both c.args.machine.now (value_sought c.args.sought.now (entry_view c.args.row.now))
    c.requires.0 _ c.requires.1
    (rw c.in-Err-Refused.field-0-is at c.in-Err-Refused.ensures.fault)

pub returns-in_ok-steps-in-Ok : goal.returns-in_ok-steps-in-Ok
returns-in_ok-steps-in-Ok g c =
    record {
      parts = c.in-Ok.plan.parts.items;
      origins = c.in-Ok.ensures.planned.origins;
      are = c.in_ok-steps-in-Ok.ensures.steps;
    }
