use Rattle.std.proofs.Common.{refl}
use Rattle.std.proofs.lemmas.Result.{err_from_is_err_and}
use Rattle.program_desc.specs.Entries.{module_in}
use Rattle.program_desc.specs.declared.key_set.KeySet.TheVariants as keys
use Rattle.program_desc.proofs.FaultLemmas.{at_rule, fails_as, unknown_fails}
use Rattle.program_desc.proofs.modules.module_in.Goals as goal

pub returns-in_err-check_keys : goal.returns-in_err-check_keys
unfolding module_in
returns-in_err-check_keys g c =
    let p = err_from_is_err_and c.from_residual.result c.from_residual.ensures.1 in
    rw (p.1, p.2)
    (unknown_fails _ keys.Module _ _ _ _ (λ bad is fault. (is, fault 0)) c.in_err-check_keys.ensures.err)

pub returns-in_err-file : goal.returns-in_err-file
unfolding module_in
returns-in_err-file g c =
    let p = err_from_is_err_and c.from_residual-in_err-file.result c.from_residual-in_err-file.ensures.1 in
    rw (p.1, p.2, c.in_ok-check_keys.ensures.ok)
    (fails_as _ _ _ _ _ (at_rule keys.Module 0 _ c.args.place _ refl) c.in_err-file.ensures)

pub returns-in_err-line : goal.returns-in_err-line
unfolding module_in
returns-in_err-line g c =
    let p = err_from_is_err_and c.from_residual-in_err-line.result c.from_residual-in_err-line.ensures.1 in
    rw (p.1, p.2, c.in_ok-check_keys.ensures.ok, c.in_ok-file.ensures)
    (fails_as _ _ _ _ _ (at_rule keys.Module 1 _ c.args.place _ refl) c.in_err-line.ensures)

pub returns-in_err-from_str : goal.returns-in_err-from_str
returns-in_err-from_str g c =
    let p = err_from_is_err_and c.from_residual-in_err-from_str.result c.from_residual-in_err-from_str.ensures.1 in
    rw (p.1, p.2) tt

pub returns-in_err-from_str-2 : goal.returns-in_err-from_str-2
returns-in_err-from_str-2 g c =
    let p = err_from_is_err_and c.from_residual-in_err-from_str-2.result c.from_residual-in_err-from_str-2.ensures.1 in
    rw (p.1, p.2) tt

pub returns : goal.returns
unfolding module_in
returns g c =
    rw (c.in_ok-check_keys.ensures.ok, c.in_ok-file.ensures, c.in_ok-line.ensures, ← c.in_ok-from_str.ensures, ← c.in_ok-from_str-2.ensures) refl
