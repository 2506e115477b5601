use Rattle.bl_walk.proofs.SeenLaws.{seen_is_determined}
use Rattle.bl_walk.proofs.laws.seen_is_determined.Goals as goal

pub returns : goal.returns
returns c = seen_is_determined
