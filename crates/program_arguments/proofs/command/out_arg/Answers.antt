use Rattle.std.proofs.Common.{rules}
use Rattle.program_arguments.proofs.command.out_arg.Goals as goal

pub returns : goal.returns
returns c = record { local = search rules; is = search rules }
