use Rattle.std.proofs.Common.{refl}
use Rattle.std.proofs.lemmas.Result.{err_from_is_err_and}
use Rattle.program_desc.specs.DescribedFirmware.{avoided_in}
use Rattle.program_desc.specs.declared.key_set.KeySet.TheVariants as keys
use Rattle.program_desc.proofs.FaultLemmas.{at_rule, fails_as, unknown_fails}
use Rattle.program_desc.proofs.firmware.avoided.avoided_in.Goals as goal

pub returns-in_err-check_keys : goal.returns-in_err-check_keys
unfolding avoided_in
returns-in_err-check_keys c =
    let p = err_from_is_err_and c.from_residual.result c.from_residual.ensures.1 in
    rw (p.1, p.2)
    (unknown_fails _ keys.Avoided _ _ _ _ (λ bad is fault. (is, fault 0)) c.in_err-check_keys.ensures.err)

pub returns-in_err-base : goal.returns-in_err-base
unfolding avoided_in
returns-in_err-base c =
    let p = err_from_is_err_and c.from_residual-in_err-base.result c.from_residual-in_err-base.ensures.1 in
    rw (p.1, p.2, c.in_ok-check_keys.ensures.ok)
    (fails_as _ _ _ _ _ (at_rule keys.Avoided 0 _ c.args.place _ refl) c.in_err-base.ensures.value)

pub returns-in_err-length : goal.returns-in_err-length
unfolding avoided_in
returns-in_err-length c =
    let p = err_from_is_err_and c.from_residual-in_err-length.result c.from_residual-in_err-length.ensures.1 in
    rw (p.1, p.2, c.in_ok-check_keys.ensures.ok, c.in_ok-base.ensures.value)
    (fails_as _ _ _ _ _ (at_rule keys.Avoided 1 _ c.args.place _ refl) c.in_err-length.ensures.value)
