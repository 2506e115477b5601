use Rattle.bl_load.proofs.AnyOrderLemmas.{in_any_order}
use Rattle.bl_load.proofs.step_laws.steps_write_the_same_in_any_order.Goals as goal

pub returns : goal.returns
returns c = λ steps others own memory texts size can ascend moved wide.
    in_any_order own texts size steps others memory can ascend moved wide
