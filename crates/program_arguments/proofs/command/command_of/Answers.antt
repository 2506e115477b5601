use Rattle.program_arguments.proofs.CommandLemmas.{arg_added}
use Rattle.program_arguments.proofs.command.command_of.Goals as goal

pub returns : goal.returns
returns c =
    arg_added c.new.result c.required_arg.result c.arg.result _ _
    (record { local = c.new.ensures.local; is = c.new.ensures.app }) c.required_arg.ensures
    c.arg.ensures
