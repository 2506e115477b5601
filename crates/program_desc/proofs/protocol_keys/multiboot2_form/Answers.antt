use Rattle.std.proofs.Common.{refl}
use Rattle.std.proofs.lemmas.Result.{err_from_is_err_and}
use Rattle.program_desc.specs.declared.key_set.KeySet.TheVariants as keys
use Rattle.program_desc.proofs.EntryLemmas.{entry_rule}
use Rattle.program_desc.proofs.FaultLemmas.{fails_as}
use Rattle.program_desc.proofs.protocol_keys.multiboot2_form.Goals as goal

pub returns-in_err-modules : goal.returns-in_err-modules
returns-in_err-modules g c =
    let p = err_from_is_err_and c.from_residual.result c.from_residual.ensures.1 in
    rw (p.1, p.2) (fails_as _ _ _ _ _ (λ bad h. h) c.in_err-modules.ensures)

pub returns-in_err-rsdp_old : goal.returns-in_err-rsdp_old
returns-in_err-rsdp_old g c =
    let p = err_from_is_err_and c.from_residual-in_err-rsdp_old.result c.from_residual-in_err-rsdp_old.ensures.1 in
    rw (p.1, p.2, c.in_ok-modules.ensures)
    (fails_as _ _ _ _ _ (entry_rule keys.Multiboot2Entry 5 _ c.args.i _ refl)
    c.in_err-rsdp_old.ensures)

pub returns-in_err-rsdp_new : goal.returns-in_err-rsdp_new
returns-in_err-rsdp_new g c =
    let p = err_from_is_err_and c.from_residual-in_err-rsdp_new.result c.from_residual-in_err-rsdp_new.ensures.1 in
    rw (p.1, p.2, c.in_ok-modules.ensures, c.in_ok-rsdp_old.ensures)
    (fails_as _ _ _ _ _ (entry_rule keys.Multiboot2Entry 6 _ c.args.i _ refl)
    c.in_err-rsdp_new.ensures)

pub returns : goal.returns
returns g c =
    rw (c.in_ok-modules.ensures, c.in_ok-rsdp_old.ensures, c.in_ok-rsdp_new.ensures) refl
