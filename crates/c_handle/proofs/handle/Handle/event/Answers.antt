use Rattle.std.proofs.Common.{rules}
use Rattle.c_handle.proofs.handle.Handle.event.Goals as goal

pub returns-in-Some-clause-fits : goal.returns-in-Some-clause-fits
returns-in-Some-clause-fits c = search rules

pub returns-in-Some-clause-step : goal.returns-in-Some-clause-step
returns-in-Some-clause-step c = search rules

pub returns-in-Some-clause-progress : goal.returns-in-Some-clause-progress
returns-in-Some-clause-progress c = search rules
