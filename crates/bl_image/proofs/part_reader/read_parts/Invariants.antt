use Rattle.std.proofs.Common.{◌≡◌, take, map}
use Rattle.std.specs.List.{flat_map}
use Rattle.bl_load.specs.Handover.{Part}
use Rattle.bl_image.specs.ImageHandover.{part_place}
use Rattle.bl_image.specs.SourceFacts.{Comes}
use Rattle.bl_image.proofs.part_reader.read_parts.Given as goal

-- the first parts came
abbrev pub invariant-loop-i : goal.invariant-loop-i
invariant-loop-i g l = record {
  came : Comes (g.S.Source.input l.fn.source) (g.S.Source.input l.source)
      (flat_map (λ (part : Part). part.bytes) l.parts.items);
  are : map part_place l.parts.items ≡ take l.i l.places;
  faults : g.S.Source.faults l.source ≡ g.S.Source.faults l.fn.source;
}
