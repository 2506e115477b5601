use Rattle.std.proofs.Common.{rules}
use Rattle.program_line.proofs.matches.job_of.Goals as goal

pub returns-in-digest : goal.returns-in-digest
returns-in-digest c = search rules

pub returns-in-digest-2 : goal.returns-in-digest-2
returns-in-digest-2 c = search rules
