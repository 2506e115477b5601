use Rattle.bl_load.proofs.PartLaws.{parts_of_rows}
use Rattle.bl_load.proofs.laws.parts_are_of_the_rows.Goals as goal

pub returns : goal.returns
returns c = λ facts value h is. (is.reading, is.read, parts_of_rows facts value h is)
