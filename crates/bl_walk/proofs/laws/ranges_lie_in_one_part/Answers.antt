use Rattle.bl_walk.proofs.PartLemmas.{found_there}
use Rattle.bl_walk.proofs.laws.ranges_lie_in_one_part.Goals as goal

pub returns : goal.returns
returns c = found_there
