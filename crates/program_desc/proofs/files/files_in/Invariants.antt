use Rattle.std.proofs.Common.{◌≡◌, drop, map}
use Rattle.toml.specs.View.{items_view}
use Rattle.program_desc.specs.TomlValues.{each_item, in_table}
use Rattle.program_desc.specs.Described.{file_in}
use Rattle.program_desc.specs.Views.{file_view}
use Rattle.program_desc.proofs.ItemLemmas.{with_front}
use Rattle.program_desc.proofs.files.files_in.Given as goal

abbrev pub invariant-loop-i : goal.invariant-loop-i
invariant-loop-i g l =
    with_front (map file_view l.files.items)
    (each_item (in_table file_in) (items_view (drop l.i l.items)))
    ≡ each_item (in_table file_in) (items_view l.items)
