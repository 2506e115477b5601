use Rattle.program_commands.proofs.DigestLaws.{of_booted, of_digested}
use Rattle.program_commands.proofs.laws.digests_are_of_booted_images.Goals as goal

pub returns-clause-booted : goal.returns-clause-booted
returns-clause-booted g c =
    λ desc other before after old new began ended a b machine value. of_booted a b machine value

pub returns-clause-one_table : goal.returns-clause-one_table
returns-clause-one_table g c =
    λ desc other before after old new began ended was is a b machine value.
    of_digested a b machine value
