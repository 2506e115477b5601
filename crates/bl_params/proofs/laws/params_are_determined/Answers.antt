use Rattle.bl_params.proofs.ParamsLaws.{one_reading, one_fault, not_both}
use Rattle.bl_params.proofs.TotalLaws.{params_or_fault}
use Rattle.bl_params.proofs.laws.params_are_determined.Goals as goal

pub returns-clause-total : goal.returns-clause-total
returns-clause-total c = params_or_fault

pub returns-clause-one_reading : goal.returns-clause-one_reading
returns-clause-one_reading c = one_reading

pub returns-clause-one_fault : goal.returns-clause-one_fault
returns-clause-one_fault c = one_fault

pub returns-clause-not_both : goal.returns-clause-not_both
returns-clause-not_both c = not_both
