use Rattle.std.proofs.Common.{refl}
use Rattle.std.proofs.lemmas.Result.{err_from_is_err_and}
use Rattle.program_desc.specs.Described.{file_in}
use Rattle.program_desc.specs.declared.key_set.KeySet.TheVariants as keys
use Rattle.program_desc.proofs.FaultLemmas.{at_rule, fails_as, unknown_fails}
use Rattle.program_desc.proofs.files.file_in.Goals as goal

pub returns-in_err-check_keys : goal.returns-in_err-check_keys
unfolding file_in
returns-in_err-check_keys g c =
    let p = err_from_is_err_and c.from_residual.result c.from_residual.ensures.1 in
    rw (p.1, p.2)
    (unknown_fails _ keys.File _ _ _ _ (λ bad is fault. (is, fault 0)) c.in_err-check_keys.ensures.err)

pub returns-in_err-name : goal.returns-in_err-name
unfolding file_in
returns-in_err-name g c =
    let p = err_from_is_err_and c.from_residual-in_err-name.result c.from_residual-in_err-name.ensures.1 in
    rw (p.1, p.2, c.in_ok-check_keys.ensures.ok)
    (fails_as _ _ _ _ _ (at_rule keys.File 0 _ c.args.place _ refl) c.in_err-name.ensures)

pub returns-in_err-bytes : goal.returns-in_err-bytes
unfolding file_in
returns-in_err-bytes g c =
    let p = err_from_is_err_and c.from_residual-in_err-bytes.result c.from_residual-in_err-bytes.ensures.1 in
    rw (p.1, p.2, c.in_ok-check_keys.ensures.ok, c.in_ok-name.ensures)
    (fails_as _ _ _ _ _ (at_rule keys.File 1 _ c.args.place _ refl) c.in_err-bytes.ensures)

pub returns-in_err-from_str : goal.returns-in_err-from_str
returns-in_err-from_str g c =
    let p = err_from_is_err_and c.from_residual-in_err-from_str.result c.from_residual-in_err-from_str.ensures.1 in
    rw (p.1, p.2) tt

pub returns : goal.returns
unfolding file_in
returns g c =
    rw (c.in_ok-check_keys.ensures.ok, c.in_ok-name.ensures, c.in_ok-bytes.ensures, ← c.in_ok-from_str.ensures) refl
