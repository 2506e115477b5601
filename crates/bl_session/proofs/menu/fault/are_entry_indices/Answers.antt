use Rattle.std.proofs.Common.{arith}
use Rattle.std.proofs.lemmas.Grind.{common_steps}
use Rattle.bl_session.proofs.menu.fault.are_entry_indices.Goals as goal

pub returns-then-default-count : goal.returns-then-default-count
returns-then-default-count c = grind (arith, common_steps)
