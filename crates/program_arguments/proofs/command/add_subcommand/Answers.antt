use Rattle.std.proofs.lemmas.Result.{IfOk-at_ok}
use Rattle.program_arguments.specs.internal.CommandParts.{IsApp}
use Rattle.program_arguments.proofs.CommandLemmas.{subcommand_added}
use Rattle.program_arguments.proofs.command.add_subcommand.Goals as goal

pub returns : goal.returns
returns c = λ app sub says sub_says.
    subcommand_added c.in_ok-command.field-0 c.in_ok-subcommand.subcommand c.subcommand.result app sub
    (IfOk-at_ok (IsApp app) c.in_ok-command.was says)
    (IfOk-at_ok (IsApp sub) c.in_ok-subcommand.was sub_says) c.subcommand.ensures
