use Rattle.std.proofs.Common.{arith}
use Rattle.std.proofs.lemmas.Grind.{common_steps}
use Rattle.bl_session.proofs.menu.named_files.+named_file_count.Goals as goal

pub returns-in-empty-clause-count : goal.returns-in-empty-clause-count
returns-in-empty-clause-count g t c = grind (arith, common_steps)

pub returns-in-len1-up-clause-count : goal.returns-in-len1-up-clause-count
returns-in-len1-up-clause-count g t c = grind (arith, common_steps)
