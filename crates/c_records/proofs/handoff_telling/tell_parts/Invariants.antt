use Rattle.std.proofs.Common.{◌≡◌, ◌++◌, map, take, drop}
use Rattle.c_records.specs.LoadTold.{place_told}
use Rattle.c_records.proofs.handoff_telling.tell_parts.Given as goal

-- the places so far, and then what stood there
abbrev pub invariant-loop-index : goal.invariant-loop-index
invariant-loop-index g l =
    l.places
    ≡ map (λ part. place_told part.place) (take l.index l.parts) ++ drop l.index l.fn.places
