use Rattle.std.proofs.Common.{◌≡◌, ◌+◌, ◌-◌, ◌≤◌, ◌<◌, ◌^◌, ◌++◌, ℕ, max, length, drop, get_or}
use Rattle.bl_mem.specs.declared.segment.Segment.{Segment}
use Rattle.bl_load.specs.KernelBlock.{high_of}
use Rattle.bl_load.specs.PlanSteps.{steps_in_block, block_steps}
use Rattle.bl_load.proofs.steps.push_block_steps.Given as goal

-- the steps so far, and those of the segments that are left, are all
abbrev pub invariant-loop-segment : goal.invariant-loop-segment
invariant-loop-segment g l =
    record {
      above : (k : ℕ) (d : Segment) → l.segment-index ≤ k → k < length l.segments
          → l.low + l.done ≤ (get_or l.segments k d).address;
      fits : (k : ℕ) (d : Segment) → l.segment-index ≤ k → k < length l.segments
          → l.at + ((get_or l.segments k d).address - l.low) + (get_or l.segments k d).memsz
          < 2 ^ 64;
      end : max (l.low + l.done) (high_of (drop l.segment-index l.segments))
          ≡ high_of l.segments;
      rest : l.steps.items
          ++ steps_in_block l.at l.file l.low l.done (drop l.segment-index l.segments)
          ≡ l.fn.steps.items ++ block_steps l.at l.file l.segments;
    }
