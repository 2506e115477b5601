use Rattle.std.proofs.Common.{◌≡◌, ◌++◌, map, take, drop}
use Rattle.c_abi.specs.DigestTold.{part_digest_told}
use Rattle.c_abi.proofs.digest_telling.tell_part_digests.Given as goal

-- the digests so far, and then what stood there
abbrev pub invariant-loop-index : goal.invariant-loop-index
invariant-loop-index l =
    l.parts ≡ map part_digest_told (take l.index l.digests) ++ drop l.index l.fn.parts
