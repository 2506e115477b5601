use Rattle.std.proofs.lemmas.Result.{IfOk-at_ok}
use Rattle.program_arguments.specs.internal.CommandParts.{IsApp}
use Rattle.program_arguments.proofs.CommandLemmas.{arg_added}
use Rattle.program_arguments.proofs.command.add_arg.Goals as goal

pub returns : goal.returns
returns c = λ app rule says has.
    arg_added c.in_ok-command.field-0 c.args.arg c.arg.result app rule
    (IfOk-at_ok (IsApp app) c.in_ok-command.was says) has c.arg.ensures
