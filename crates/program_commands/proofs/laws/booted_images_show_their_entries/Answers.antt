use Rattle.program_commands.proofs.ShownLaws.{booted_image_shows, booted_image_is_entered}
use Rattle.program_commands.proofs.ShownLaws.{booted_image_is_sound}
use Rattle.program_commands.proofs.laws.booted_images_show_their_entries.Goals as goal

pub returns-clause-seen : goal.returns-clause-seen
returns-clause-seen g c =
    λ desc before after b version image seen is sees.
    booted_image_shows b version image seen is sees

pub returns-clause-entered : goal.returns-clause-entered
returns-clause-entered g c = λ desc before after b version image is.
    booted_image_is_entered b version image is

pub returns-clause-sound : goal.returns-clause-sound
returns-clause-sound g c = λ desc before after b version image is.
    booted_image_is_sound b version image is
