use Rattle.std.proofs.Common.{◌≡◌, ◌++◌, map, take, drop}
use Rattle.c_abi.specs.BootTold.{refused_told}
use Rattle.c_abi.proofs.boot_telling.tell_refusals.Given as goal

-- the refusals so far, and then what stood there
abbrev pub invariant-loop-index : goal.invariant-loop-index
invariant-loop-index l =
    l.refusals ≡ map refused_told (take l.index l.refused) ++ drop l.index l.fn.refusals
