use Rattle.bl_session.proofs.run_lemmas.FaultLaws.{some_faults}
use Rattle.bl_session.proofs.runs.run_laws.marked_histories_are_genuine.Goals as goal

pub returns : goal.returns
returns c = some_faults
