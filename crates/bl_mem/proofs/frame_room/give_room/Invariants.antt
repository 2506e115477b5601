use Rattle.std.proofs.Common.{◌-◌, ◌≤◌}
use Rattle.bl_mem.specs.internal.FrameSlots.{AreGivenRoom}
use Rattle.bl_mem.proofs.frame_room.give_room.Given as goal

-- those so far have room
abbrev pub invariant-loop-at : goal.invariant-loop-at
invariant-loop-at g l =
    record {
      from : l.first ≤ l.at;
      within : l.at ≤ l.end;
      opened : AreGivenRoom l.fn.table.items l.table.items l.first l.at l.fill l.opened;
    }

abbrev pub decreases-loop-at : goal.decreases-loop-at
decreases-loop-at g l = l.end - l.at
