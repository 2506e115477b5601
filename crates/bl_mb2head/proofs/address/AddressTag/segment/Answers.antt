use Rattle.std.proofs.Common.{arith}
use Rattle.std.proofs.lemmas.Grind.{common_steps}
use Rattle.bl_mb2head.proofs.address.AddressTag.segment.Goals as goal

pub returns-then-has_bad_start-clause-fits : goal.returns-then-has_bad_start-clause-fits
returns-then-has_bad_start-clause-fits c = grind (arith, common_steps)

pub returns-then-size-offset-clause-fits : goal.returns-then-size-offset-clause-fits
returns-then-size-offset-clause-fits c = grind (arith, common_steps)

pub returns-in_err-memsz-clause-fits : goal.returns-in_err-memsz-clause-fits
returns-in_err-memsz-clause-fits c = grind (arith, common_steps)

pub returns-then-memsz-filesz-clause-fits : goal.returns-then-memsz-filesz-clause-fits
returns-then-memsz-filesz-clause-fits c = grind (arith, common_steps)

pub returns-clause-fits : goal.returns-clause-fits
returns-clause-fits c = grind (arith, common_steps)
