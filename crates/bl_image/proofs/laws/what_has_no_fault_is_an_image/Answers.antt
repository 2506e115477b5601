use Rattle.bl_image.proofs.TotalLaws.{image_found}
use Rattle.bl_image.proofs.laws.what_has_no_fault_is_an_image.Goals as goal

pub returns : goal.returns
returns c = image_found
