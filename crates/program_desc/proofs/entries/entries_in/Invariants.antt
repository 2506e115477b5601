use Rattle.std.proofs.Common.{◌≡◌, drop, map}
use Rattle.toml.specs.View.{items_view}
use Rattle.program_desc.specs.TomlValues.{each_item, in_table}
use Rattle.program_desc.specs.Entries.{menu_entry_in}
use Rattle.program_desc.specs.Views.{entry_view}
use Rattle.program_desc.proofs.ItemLemmas.{with_front}
use Rattle.program_desc.proofs.entries.entries_in.Given as goal

abbrev pub invariant-loop-i : goal.invariant-loop-i
invariant-loop-i g l =
    with_front (map entry_view l.entries.items)
    (each_item (in_table menu_entry_in) (items_view (drop l.i l.items)))
    ≡ each_item (in_table menu_entry_in) (items_view l.items)
