use Rattle.bl_walk.proofs.LegalLaws.{images_are_entered, images_show, images_are_sound}
use Rattle.bl_walk.proofs.laws.images_show_their_entries.Goals as goal

pub returns-clause-seen : goal.returns-clause-seen
returns-clause-seen c = images_show

pub returns-clause-sound : goal.returns-clause-sound
returns-clause-sound c = images_are_sound

pub returns-clause-entered : goal.returns-clause-entered
returns-clause-entered c = images_are_entered
