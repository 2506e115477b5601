use Rattle.std.proofs.Common.{Ok, refl}
use Rattle.c_abi.proofs.walking.walk_all_told.Goals as goal

pub returns-in-Ok : goal.returns-in-Ok
returns-in-Ok g c = (Ok c.in-Ok.records, c.in-Ok.ensures, (c.tell_records.ensures, refl))
