use Rattle.std.proofs.lemmas.Result.{err_from_is_err_and}
use Rattle.program_desc.proofs.entries.own_texts.Goals as goal

pub returns-in_err-title : goal.returns-in_err-title
returns-in_err-title g c =
    let p = err_from_is_err_and c.from_residual.result c.from_residual.ensures.1 in
    rw p.1 tt

pub returns-in_err-kernel : goal.returns-in_err-kernel
returns-in_err-kernel g c =
    let p =
    err_from_is_err_and c.from_residual-in_err-kernel.result
    c.from_residual-in_err-kernel.ensures.1 in
    rw p.1 tt

pub returns-in_err-line : goal.returns-in_err-line
returns-in_err-line g c =
    let p =
    err_from_is_err_and c.from_residual-in_err-line.result c.from_residual-in_err-line.ensures.1 in
    rw p.1 tt

pub returns : goal.returns
returns g c = (c.in_ok-title.ensures, c.in_ok-kernel.ensures, c.in_ok-line.ensures)
