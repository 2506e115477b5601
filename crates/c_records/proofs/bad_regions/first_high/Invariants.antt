use Rattle.std.proofs.Common.{All, take}
use Rattle.c_records.specs.BadRegions.{EndsTooHigh}
use Rattle.c_records.proofs.bad_regions.first_high.Given as goal

-- none of the regions so far ends too high
abbrev pub invariant-loop-index : goal.invariant-loop-index
invariant-loop-index l = All (λ region. ¬ EndsTooHigh region) (take l.index l.regions)
