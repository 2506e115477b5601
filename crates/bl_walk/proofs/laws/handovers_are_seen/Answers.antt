use Rattle.bl_walk.proofs.LegalLaws.{handovers_are_entered, handovers_are_seen, handovers_are_sound}
use Rattle.bl_walk.proofs.laws.handovers_are_seen.Goals as goal

pub returns-clause-seen : goal.returns-clause-seen
returns-clause-seen c = handovers_are_seen

pub returns-clause-sound : goal.returns-clause-sound
returns-clause-sound c = handovers_are_sound

pub returns-clause-entered : goal.returns-clause-entered
returns-clause-entered c = handovers_are_entered
