use Rattle.bl_image.proofs.ImageLaws.{image_sound}
use Rattle.bl_image.proofs.laws.images_have_no_fault.Goals as goal

pub returns : goal.returns
returns c = image_sound
