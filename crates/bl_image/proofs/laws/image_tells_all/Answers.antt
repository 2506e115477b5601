use Rattle.bl_image.proofs.ReadAgain.{image_is_read_again}
use Rattle.bl_image.proofs.laws.image_tells_all.Goals as goal

pub returns : goal.returns
returns c = image_is_read_again
