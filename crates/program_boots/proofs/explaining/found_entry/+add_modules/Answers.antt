use Rattle.std.proofs.Common.{arith}
use Rattle.std.proofs.lemmas.Grind.{common_steps}
use Rattle.program_boots.proofs.explaining.found_entry.+add_modules.Goals as goal

pub returns-in_ok-add_text-in-len1-up : goal.returns-in_ok-add_text-in-len1-up
returns-in_ok-add_text-in-len1-up g t c = grind (arith, common_steps)
