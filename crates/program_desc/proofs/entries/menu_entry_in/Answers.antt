use Rattle.std.proofs.lemmas.Result.{err_from_is_err_and}
use Rattle.toml.specs.View.{table_view}
use Rattle.program_desc.specs.Entries.{menu_entry_in}
use Rattle.program_desc.proofs.EntryLemmas.{protocol_fails, set_is}
use Rattle.program_desc.proofs.entries.menu_entry_in.Goals as goal

pub returns-in_err-protocol : goal.returns-in_err-protocol
unfolding menu_entry_in
returns-in_err-protocol g c =
    let p = err_from_is_err_and c.from_residual.result c.from_residual.ensures.1 in
    rw (p.1, p.2) (protocol_fails c.args.i (table_view c.args.table.now) _ _ c.in_err-protocol.ensures)

pub returns : goal.returns
unfolding menu_entry_in
returns g c =
    rw (
      set_is (table_view c.args.table.now) _ c.in_ok-protocol.ensures,
      c.in_ok-protocol.ensures,
    ) c.entry_by.ensures
