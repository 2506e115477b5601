use Rattle.std.proofs.Common.{refl}
use Rattle.std.proofs.lemmas.Result.{err_from_is_err_and}
use Rattle.program_desc.proofs.ArrayLemmas.{range_of_two}
use Rattle.program_desc.proofs.FaultLemmas.{fails_as}
use Rattle.program_desc.proofs.pool.range_in.Goals as goal

pub returns-in_err-start : goal.returns-in_err-start
returns-in_err-start c =
    let p = err_from_is_err_and c.from_residual.result c.from_residual.ensures.1 in
    rw (p.1, p.2, range_of_two c.args.items.now c.requires)
    (fails_as _ _ _ _ _ (λ bad h. h) c.in_err-start.ensures)

pub returns-in_err-end : goal.returns-in_err-end
returns-in_err-end c =
    let p = err_from_is_err_and c.from_residual-in_err-end.result c.from_residual-in_err-end.ensures.1 in
    rw (p.1, p.2, range_of_two c.args.items.now c.requires, c.in_ok-start.ensures)
    (fails_as _ _ _ _ _ (λ bad h. h) c.in_err-end.ensures)

pub returns : goal.returns
returns c =
    rw (range_of_two c.args.items.now c.requires, c.in_ok-start.ensures, c.in_ok-end.ensures) refl
