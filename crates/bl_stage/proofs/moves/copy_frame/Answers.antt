use Rattle.bl_stage.proofs.moves.copy_frame.Goals as goal

pub returns-clause-after : goal.returns-clause-after
returns-clause-after g c = c.copy.ensures.after
