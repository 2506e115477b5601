use Rattle.program_arguments.proofs.command.boot_command.Goals as goal

pub returns : goal.returns
returns c =
    c.add_arg-2.ensures _ _ (c.add_arg.ensures _ _ c.command_of-command.ensures c.out_arg.ensures)
    c.order_arg.ensures
