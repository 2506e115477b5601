use Rattle.program_arguments.proofs.command.digest_command.Goals as goal

pub returns : goal.returns
returns c = c.add_arg.ensures _ _ c.command_of.ensures c.image_flag.ensures
