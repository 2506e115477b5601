use Rattle.std.proofs.Common.{◌≡◌, ◌+◌, ◌*◌, ◌≤◌, ◌^◌, take}
use Rattle.bl_image.specs.ImageLength.{image_length}
use Rattle.bl_image.proofs.image_length.image_len.Given as goal

-- the head, the records and the bytes of the first places
abbrev pub invariant-loop-i : goal.invariant-loop-i
invariant-loop-i g l = record {
  sum : l.len ≡ image_length (take l.i l.handoff.places);
  low : l.len ≤ 272 + (24 + 2 ^ 32) * l.i;
}
