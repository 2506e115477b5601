use Rattle.std.proofs.Common.{arith, rules}
use Rattle.bl_params.proofs.FormLemmas.{behind_is, end_is}
use Rattle.bl_params.proofs.ShallowLemmas.{shallow}
use Rattle.bl_params.proofs.reader.read_params.Goals as goal

pub pass_zeros-requires-clause-plain : goal.pass_zeros-requires-clause-plain
pass_zeros-requires-clause-plain g c =
    let e = c.end_of_header.ensures.exact in λ k from below. behind_is _ k (omega arith) below

pub pass_zeros-requires-2-clause-plain : goal.pass_zeros-requires-2-clause-plain
pass_zeros-requires-2-clause-plain g c = λ k from below. end_is _ k (omega arith) from

pub screen_of-requires-clause-shallow : goal.screen_of-requires-clause-shallow
screen_of-requires-clause-shallow g c =
    shallow _ (c.in_ok-pass_before_header.ensures.0.sound 0x16 (omega arith))

pub returns-clause-read : goal.returns-clause-read
returns-clause-read g c = search rules
