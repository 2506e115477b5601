use Rattle.program_commands.proofs.DigestLaws.{converted_table, one_table}
use Rattle.program_commands.proofs.DigestLaws.{said_table}
use Rattle.program_commands.proofs.laws.images_have_one_table.Goals as goal

pub returns-clause-said : goal.returns-clause-said
returns-clause-said c = said_table

pub returns-clause-one : goal.returns-clause-one
returns-clause-one c = one_table

pub returns-clause-converted : goal.returns-clause-converted
returns-clause-converted c = converted_table
