use Rattle.bl_plan.proofs.blocked_stretch.avoided_stretch.Goals as goal

pub returns : goal.returns
returns g c = rw c.avoided.ensures.avoided at c.meeting_range.ensures
