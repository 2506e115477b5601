use Rattle.std.proofs.Common.{◌≡◌, map, take}
use Rattle.c_abi.specs.Sessions.{size_given}
use Rattle.c_abi.proofs.sessions.sizes_of.Given as goal

-- the sizes so far
abbrev pub invariant-loop-file : goal.invariant-loop-file
invariant-loop-file g l = l.sizes.items ≡ map size_given (take l.file-index l.file-items)
