use Rattle.std.proofs.Common.{◌≡◌, ◌+◌, ◌*◌, ◌<◌, ◌^◌, ◌++◌, length, take, All}
use Rattle.std.specs.List.{flat_map}
use Rattle.bl_plan.specs.declared.part.Place.{Place}
use Rattle.bl_image.specs.Image.{head}
use Rattle.bl_image.specs.internal.PlaceRecords.{place_record}
use Rattle.bl_image.specs.Versions.{written_version}
use Rattle.bl_image.proofs.front.put_front.Given as goal

-- the head and the records of the first places stand in the buffer
abbrev pub invariant-loop-i : goal.invariant-loop-i
invariant-loop-i g l = record {
  front : take (272 + 24 * l.i) l.buffer
      ≡ head written_version l.fn.protocol l.registers (length (g.P.Places.places l.places))
      ++ flat_map place_record (take l.i (g.P.Places.places l.places));
  indices : All (λ (place : Place). place.index < 2 ^ 32) (take l.i (g.P.Places.places l.places));
}
