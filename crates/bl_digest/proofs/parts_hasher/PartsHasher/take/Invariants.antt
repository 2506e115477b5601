use Rattle.std.proofs.Common.{◌≡◌, ◌≤◌, ◌-◌, ◌++◌, length, take}
use Rattle.bl_digest.proofs.parts_hasher.PartsHasher.take.Given as goal

-- the first bytes were taken
abbrev pub invariant-loop-done : goal.invariant-loop-done
invariant-loop-done g l = record {
  taken : l.self ≡ record {
    places = l.fn.self.places;
    taken = l.fn.self.taken ++ take l.done l.bytes;
  };
  within : l.done ≤ length l.bytes;
}

abbrev pub decreases-loop-done : goal.decreases-loop-done
decreases-loop-done g l = length l.bytes - l.done
