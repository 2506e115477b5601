use Rattle.std.proofs.Common.{◌≡◌, drop, map}
use Rattle.toml.specs.View.{items_view}
use Rattle.program_desc.specs.TomlValues.{each_item, in_table}
use Rattle.program_desc.specs.Entries.{module_in}
use Rattle.program_desc.specs.Views.{module_view}
use Rattle.program_desc.proofs.ItemLemmas.{with_front}
use Rattle.program_desc.proofs.modules.modules_in.Given as goal

abbrev pub invariant-loop-i : goal.invariant-loop-i
invariant-loop-i g l =
    with_front (map module_view l.modules.items)
    (each_item (in_table module_in) (items_view (drop l.i l.items)))
    ≡ each_item (in_table module_in) (items_view l.items)
