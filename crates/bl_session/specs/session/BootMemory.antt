-- What memory holds where a boot stands so, beside what it held before. Own.
use Rattle.std.specs.Prelude.{ℕ, List, []}
use Rattle.std.specs.declared.ops.Range.{Range}
use Rattle.bl_load.specs.MemoryAfter.{IsMemoryAfter}
use Rattle.bl_stage.specs.Ranges.{IsSameOutside}
use Rattle.bl_session.specs.session.BootSteps.{State, unstarted, running, handed_over, none_left}
use Rattle.bl_session.specs.session.BootSteps.{out_of_memory}

-- after a handover the parts, 0 elsewhere in the pool, and each other byte as before; where no
-- entry is left the same with no parts; else no byte outside the pool changed
abbrev pub IsMemoryAt : Range ℕ → State → (old new : List ℕ) → Type 0
IsMemoryAt pool unstarted old new = IsSameOutside pool old new
IsMemoryAt pool (running entry rest earlier files) old new = IsSameOutside pool old new
IsMemoryAt pool (handed_over entry earlier handover) old new =
    IsMemoryAfter pool handover.parts old new
IsMemoryAt pool (none_left earlier) old new = IsMemoryAfter pool [] old new
IsMemoryAt pool out_of_memory old new = IsSameOutside pool old new
