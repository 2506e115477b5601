use Rattle.std.proofs.Common.{◌≡◌, map, take}
use Rattle.bl_digest.specs.internal.Hashing.{told_place, total_of}
use Rattle.bl_digest.proofs.parts_hasher.PartsHasher.new.Given as goal

-- the first places have their rows, and their bytes are counted
abbrev pub invariant-loop-i : goal.invariant-loop-i
invariant-loop-i g l = record {
  rows : map told_place l.rows.items ≡ take l.i (g.P.Places.places l.places);
  room : l.room ≡ total_of (take l.i (g.P.Places.places l.places));
}
