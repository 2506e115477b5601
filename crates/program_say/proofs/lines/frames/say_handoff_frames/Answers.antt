use Rattle.program_say.proofs.FrameLemmas.{ascending_parts}
use Rattle.program_say.proofs.lines.frames.say_handoff_frames.Goals as goal

pub open_frames-beside-requires-clause-ascending :
    goal.open_frames-beside-requires-clause-ascending
open_frames-beside-requires-clause-ascending g c =
    rw c.ranges-2.ensures (ascending_parts c.args.handoff.now c.len.ensures.kept)
