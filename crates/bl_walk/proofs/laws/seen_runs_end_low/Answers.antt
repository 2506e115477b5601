use Rattle.bl_walk.proofs.RunLemmas.{seen_runs_end_low}
use Rattle.bl_walk.proofs.laws.seen_runs_end_low.Goals as goal

pub returns : goal.returns
returns c = seen_runs_end_low
