use Rattle.std.proofs.Common.{rules}
use Rattle.program_arguments.proofs.command.top_command.Goals as goal

pub returns : goal.returns
returns c = record { local = search rules; is = search rules }
