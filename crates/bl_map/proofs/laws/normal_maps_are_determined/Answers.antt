use Rattle.bl_map.proofs.MapLaws.{one_normal_map}
use Rattle.bl_map.proofs.laws.normal_maps_are_determined.Goals as goal

pub returns : goal.returns
returns c = record { one_map = one_normal_map }
