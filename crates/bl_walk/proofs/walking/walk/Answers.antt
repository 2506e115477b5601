use Rattle.bl_walk.proofs.RunLemmas.{low_by}
use Rattle.bl_walk.proofs.SoundLemmas.{sound_by}
use Rattle.bl_walk.proofs.walking.walk.Goals as goal

pub returns-in-Multiboot2-clause-sound : goal.returns-in-Multiboot2-clause-sound
returns-in-Multiboot2-clause-sound g c =
    sound_by c.args.image.now c.shown_by_information.result c.in_ok-check_state.ensures.ok
    c.shown_by_information.ensures.ok

pub returns-in-Linux-clause-sound : goal.returns-in-Linux-clause-sound
returns-in-Linux-clause-sound g c =
    sound_by c.args.image.now c.shown_by_parameters.result c.in_ok-check_state.ensures.ok
    c.shown_by_parameters.ensures.ok

pub returns-in-Multiboot2-clause-low : goal.returns-in-Multiboot2-clause-low
returns-in-Multiboot2-clause-low g c =
    low_by c.args.image.now c.shown_by_information.result c.shown_by_information.ensures.ok

pub returns-in-Linux-clause-low : goal.returns-in-Linux-clause-low
returns-in-Linux-clause-low g c =
    low_by c.args.image.now c.shown_by_parameters.result c.shown_by_parameters.ensures.ok
