use Rattle.c_records.proofs.ProtocolLemmas.{numbered}
use Rattle.c_records.proofs.given_checks.is_protocol.Goals as goal

pub returns : goal.returns
returns c = rw (c.is_some.ensures, c.from_number.ensures) (numbered c.args.protocol)
