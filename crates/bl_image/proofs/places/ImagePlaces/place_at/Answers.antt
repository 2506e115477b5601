use Rattle.std.proofs.Common.{arith}
use Rattle.std.proofs.lemmas.List.{length-map}
use Rattle.bl_image.specs.ImageHandover.{part_place}
use Rattle.bl_image.proofs.places.ImagePlaces.place_at.Goals as goal

pub part-part-requires : goal.part-part-requires
part-part-requires g c = omega (arith, c.requires, length-map c.args.self.now.parts part_place)
