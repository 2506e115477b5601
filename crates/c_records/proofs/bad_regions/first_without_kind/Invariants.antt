use Rattle.std.proofs.Common.{All, take}
use Rattle.c_records.specs.BadRegions.{HasNoKind}
use Rattle.c_records.proofs.bad_regions.first_without_kind.Given as goal

-- each region so far is of a kind
abbrev pub invariant-loop-index : goal.invariant-loop-index
invariant-loop-index l = All (λ region. ¬ HasNoKind region) (take l.index l.regions)
