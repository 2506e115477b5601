use Rattle.std.proofs.lemmas.Result.{err_from_is_err_and}
use Rattle.toml.specs.View.{view}
use Rattle.program_desc.specs.DescribedFirmware.{avoided_in}
use Rattle.program_desc.specs.declared.bad_key.TablePlace.TheVariants as places
use Rattle.program_desc.specs.declared.key_set.KeySet.TheVariants as keys
use Rattle.program_desc.proofs.FaultLemmas.{fault_as}
use Rattle.program_desc.proofs.ItemLemmas.{by_table, no_table}
use Rattle.program_desc.proofs.firmware.avoided.avoided_of.Goals as goal

pub returns-in_err-table : goal.returns-in_err-table
returns-in_err-table c =
    let p = err_from_is_err_and c.from_residual.result c.from_residual.ensures.1 in
    rw (p.1, p.2)
    (fault_as _ _ _ _ _ (no_table avoided_in (view c.args.value.now))
    (λ bad h. (h.0, h.1 keys.Avoided)) c.in_err-table.ensures)

pub returns : goal.returns
returns c =
    by_table _ avoided_in places.Avoided keys.Avoided c.args.i (view c.args.value.now) _
    c.avoided_in.result c.in_ok-table.ensures c.avoided_in.ensures
