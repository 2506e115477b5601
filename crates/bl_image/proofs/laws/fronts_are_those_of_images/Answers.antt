use Rattle.bl_image.proofs.FrontAgain.{front_fault_is, front_is_read_again, front_sound}
use Rattle.bl_image.proofs.laws.fronts_are_those_of_images.Goals as goal

pub returns-clause-handed : goal.returns-clause-handed
returns-clause-handed c = front_is_read_again

pub returns-clause-fault : goal.returns-clause-fault
returns-clause-fault c = front_fault_is

pub returns-clause-sound : goal.returns-clause-sound
returns-clause-sound c = front_sound
