use Rattle.bl_mbi.proofs.InfoIs.{read_is_spelled}
use Rattle.bl_mbi.proofs.laws.read_is_spelled.Goals as goal

pub returns : goal.returns
returns c = read_is_spelled
