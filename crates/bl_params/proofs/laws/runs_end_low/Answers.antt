use Rattle.bl_params.proofs.RunLemmas.{runs_end_low}
use Rattle.bl_params.proofs.laws.runs_end_low.Goals as goal

pub returns : goal.returns
returns c = runs_end_low
