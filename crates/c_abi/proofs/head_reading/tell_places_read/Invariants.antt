use Rattle.std.proofs.Common.{◌≡◌, ◌++◌, map, take, drop}
use Rattle.c_records.specs.LoadTold.{place_told}
use Rattle.c_abi.proofs.head_reading.tell_places_read.Given as goal

-- the places so far, and then what stood there
abbrev pub invariant-loop-index : goal.invariant-loop-index
invariant-loop-index l =
    l.places ≡ map place_told (take l.index l.read) ++ drop l.index l.fn.places
