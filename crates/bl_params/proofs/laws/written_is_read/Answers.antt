use Rattle.bl_params.proofs.WrittenIsRead.{written_is_read}
use Rattle.bl_params.proofs.laws.written_is_read.Goals as goal

pub returns : goal.returns
returns c = written_is_read
