use Rattle.program_arguments.proofs.command.command_with.Goals as goal

pub returns : goal.returns
returns c =
    let one = c.add_subcommand-top.ensures _ _ c.top_command.ensures c.boot_command.ensures in
    let two = c.add_subcommand-top-2.ensures _ _ one c.command_of.ensures in
    let three = c.add_subcommand-top-3.ensures _ _ two c.command_of-2.ensures in
    let four = c.add_subcommand-top-4.ensures _ _ three c.convert_command.ensures in
    let five = c.add_subcommand-top-5.ensures _ _ four c.explain_command.ensures in
    c.add_subcommand.ensures _ _ five c.digest_command.ensures
