use Rattle.bl_mbi.proofs.ReadAgain.{spelled_is_read}
use Rattle.bl_mbi.proofs.laws.spelled_is_read.Goals as goal

pub returns : goal.returns
returns c = spelled_is_read
