use Rattle.bl_params.proofs.PagingLaws.{below, above}
use Rattle.bl_params.proofs.laws.paging_keeps_addresses.Goals as goal

pub returns-clause-below : goal.returns-clause-below
returns-clause-below c = λ base a low small. below base a low small

pub returns-clause-above : goal.returns-clause-above
returns-clause-above c = λ base a low large. above base a low large
