use Rattle.c_abi.proofs.UnplacedLemmas.{one_part}
use Rattle.c_abi.proofs.plan_laws.unplaced_parts_are_determined.Goals as goal

pub returns : goal.returns
returns c = one_part
