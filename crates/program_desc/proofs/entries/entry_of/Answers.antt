use Rattle.std.proofs.lemmas.Result.{err_from_is_err_and}
use Rattle.toml.specs.View.{view}
use Rattle.program_desc.specs.Entries.{menu_entry_in}
use Rattle.program_desc.proofs.EntryLemmas.{by_entry, entry_no_table}
use Rattle.program_desc.proofs.FaultLemmas.{fault_as}
use Rattle.program_desc.proofs.ItemLemmas.{no_table}
use Rattle.program_desc.proofs.entries.entry_of.Goals as goal

pub returns-in_err-table : goal.returns-in_err-table
returns-in_err-table g c =
    let p = err_from_is_err_and c.from_residual.result c.from_residual.ensures.1 in
    rw (p.1, p.2)
    (fault_as _ _ _ _ _ (no_table menu_entry_in (view c.args.value.now))
    (entry_no_table c.args.i (view c.args.value.now)) c.in_err-table.ensures)

pub returns : goal.returns
returns g c =
    by_entry _ c.args.i (view c.args.value.now) _ c.menu_entry_in.result c.in_ok-table.ensures
    c.menu_entry_in.ensures
