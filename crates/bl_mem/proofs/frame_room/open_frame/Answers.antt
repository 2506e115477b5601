use Rattle.std.proofs.Common.{arith}
use Rattle.std.proofs.lemmas.Grind.{common_steps}
use Rattle.bl_mem.proofs.frame_room.open_frame.Goals as goal

pub returns-then-has_room : goal.returns-then-has_room
returns-then-has_room g c = grind (arith, common_steps)

pub returns : goal.returns
returns g c = grind (arith, common_steps)
