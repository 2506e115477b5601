use Rattle.std.proofs.Common.{arith}
use Rattle.std.proofs.lemmas.Grind.{common_steps}
use Rattle.bl_session.proofs.menu.lines_and_copies.+module_lines_are_bytes.Goals as goal

pub returns-in-empty : goal.returns-in-empty
returns-in-empty g t c = grind (arith, common_steps)

pub returns-in-len1-up : goal.returns-in-len1-up
returns-in-len1-up g t c = grind (arith, common_steps)
