use Rattle.std.proofs.Common.{refl}
use Rattle.std.proofs.lemmas.Result.{err_from_is_err_and}
use Rattle.program_desc.proofs.entries.entry_with.Goals as goal

pub returns-in_err-own : goal.returns-in_err-own
returns-in_err-own g c =
    let p = err_from_is_err_and c.from_residual.result c.from_residual.ensures.1 in
    rw p.1 tt

pub invariant_of-result : goal.invariant_of-result
invariant_of-result g c =
    record { old = c.requires.old; new = c.requires.new }

pub returns : goal.returns
returns g c =
    let own = c.in_ok-own.ensures in
    rw (own.0, own.1, own.2) refl
