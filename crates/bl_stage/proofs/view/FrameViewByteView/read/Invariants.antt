use Rattle.std.proofs.Common.{◌≡◌, ◌-◌, ◌+◌, ◌≤◌, length, take, slice_range}
use Rattle.bl_stage.specs.Staged.{staged}
use Rattle.bl_stage.proofs.view.FrameViewByteView.read.Given as goal

-- what was read so far
abbrev pub invariant-loop-done : goal.invariant-loop-done
invariant-loop-done g l =
    record {
      within : l.done ≤ length l.out;
      inside : l.at + length l.out ≤ l.self.size;
      after : take l.done l.out
          ≡ slice_range (staged (g.M.PhysMem.bytes l.self.memory.now) l.self.frames.now l.self.size)
          l.at (l.at + l.done);
    }

abbrev pub decreases-loop-done : goal.decreases-loop-done
decreases-loop-done g l = length l.out - l.done
