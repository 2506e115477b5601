use Rattle.std.proofs.Common.{◌≡◌, take}
use Rattle.bl_digest.proofs.TableLemmas.{bytes_of_parts}
use Rattle.bl_digest.proofs.image_digesting.digest_image.Given as goal

-- the bytes of the first parts were taken
abbrev pub invariant-loop-part : goal.invariant-loop-part
invariant-loop-part g l = record {
  front : l.hasher.front ≡ l.initial.hasher.front;
  places : l.hasher.places ≡ l.initial.hasher.places;
  taken : l.hasher.taken ≡ bytes_of_parts (take l.part-index l.parts);
}
