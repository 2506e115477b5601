use Rattle.std.proofs.Common.{arith}
use Rattle.std.proofs.lemmas.Grind.{common_steps}
use Rattle.program_say.proofs.lines.frames.+frames_of_modules.Goals as goal

pub overflow_add-result : goal.overflow_add-result
overflow_add-result g c = grind (arith, common_steps)

pub returns-in-len1-up-clause-most : goal.returns-in-len1-up-clause-most
returns-in-len1-up-clause-most g c = grind (arith, common_steps)

pub returns-in-len1-up-clause-frames : goal.returns-in-len1-up-clause-frames
returns-in-len1-up-clause-frames g c = grind (arith, common_steps)
