use Rattle.bl_load.proofs.LengthLaws.{same_handover, same_origins, same_fault}
use Rattle.bl_load.proofs.length_laws.files_after_the_kernel_count_by_length.Goals as goal

pub returns-clause-handover : goal.returns-clause-handover
returns-clause-handover g c = same_handover

pub returns-clause-origins : goal.returns-clause-origins
returns-clause-origins g c = same_origins

pub returns-clause-fault : goal.returns-clause-fault
returns-clause-fault g c = same_fault
