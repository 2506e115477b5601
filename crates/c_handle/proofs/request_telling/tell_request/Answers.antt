use Rattle.std.proofs.Common.{rules}
use Rattle.c_handle.proofs.request_telling.tell_request.Goals as goal

pub returns-in-Some : goal.returns-in-Some
returns-in-Some g c = search rules
