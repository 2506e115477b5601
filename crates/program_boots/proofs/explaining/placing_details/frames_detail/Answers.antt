use Rattle.bl_load.specs.PlanContents.{handoff_by}
use Rattle.program_desc.specs.Views.{entry_view}
use Rattle.program_boots.specs.explaining.Details.{value_sought}
use Rattle.program_boots.proofs.explaining_lemmas.DetailLemmas.{beside_plan}
use Rattle.program_say.proofs.FrameLemmas.{ascending_parts}
use Rattle.program_boots.proofs.explaining.placing_details.frames_detail.Goals as goal

pub open_frames-requires-clause-ascending : goal.open_frames-requires-clause-ascending
open_frames-requires-clause-ascending g c =
    rw c.ranges-in-Ok.ensures
    (ascending_parts (handoff_by c.in-Ok.plan) c.in-Ok.ensures.planned.loadable.kept)

pub returns-in-Ok : goal.returns-in-Ok
returns-in-Ok g c =
    let planned = c.in-Ok.ensures.planned in
    beside_plan c.args.machine.now (value_sought c.args.sought.now (entry_view c.args.row.now))
    planned.texts c.args.machine.now.size c.in-Ok.plan c.open_frames.result planned.handover
    planned.loadable (rw (c.pool.ensures.pool, c.ranges-in-Ok.ensures) at c.open_frames.ensures)

pub returns-in-Err-Refused : goal.returns-in-Err-Refused
returns-in-Err-Refused g c =
    (_, rw c.in-Err-Refused.field-0-is at c.in-Err-Refused.ensures.fault)
