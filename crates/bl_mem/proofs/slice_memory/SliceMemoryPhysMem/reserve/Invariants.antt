use Rattle.std.proofs.Common.{◌≤◌, take}
use Rattle.std.specs.Prelude.{All}
use Rattle.bl_mem.specs.Memory.{HasRoom}
use Rattle.bl_mem.proofs.slice_memory.SliceMemoryPhysMem.reserve.Given as goal

-- each address of the ranges so far lies at the base or above it
abbrev pub invariant-loop-range : goal.invariant-loop-range
invariant-loop-range l =
    All (λ range. HasRoom (λ a. l.self.base ≤ a) range.start range.end) (take l.range-index l.ranges)
