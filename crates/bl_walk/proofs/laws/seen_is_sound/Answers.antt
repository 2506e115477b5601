use Rattle.bl_walk.proofs.SoundLemmas.{seen_is_sound}
use Rattle.bl_walk.proofs.laws.seen_is_sound.Goals as goal

pub returns : goal.returns
returns c = seen_is_sound
