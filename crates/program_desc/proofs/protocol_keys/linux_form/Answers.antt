use Rattle.std.proofs.Common.{refl}
use Rattle.std.proofs.lemmas.Result.{err_from_is_err_and}
use Rattle.program_desc.specs.declared.key_set.KeySet.TheVariants as keys
use Rattle.program_desc.proofs.EntryLemmas.{entry_rule}
use Rattle.program_desc.proofs.FaultLemmas.{fails_as}
use Rattle.program_desc.proofs.protocol_keys.linux_form.Goals as goal

pub returns-in_err-initrd : goal.returns-in_err-initrd
returns-in_err-initrd g c =
    let p = err_from_is_err_and c.from_residual.result c.from_residual.ensures.1 in
    rw (p.1, p.2)
    (fails_as _ _ _ _ _ (entry_rule keys.LinuxEntry 4 _ c.args.i _ refl) c.in_err-initrd.ensures)

pub returns-in_err-own_text : goal.returns-in_err-own_text
returns-in_err-own_text g c =
    let p = err_from_is_err_and c.from_residual-in_err-own_text.result c.from_residual-in_err-own_text.ensures.1 in
    rw (p.1, p.2) tt
