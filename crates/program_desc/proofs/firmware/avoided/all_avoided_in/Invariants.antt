use Rattle.std.proofs.Common.{◌≡◌, drop}
use Rattle.toml.specs.View.{items_view}
use Rattle.program_desc.specs.TomlValues.{each_item, in_table}
use Rattle.program_desc.specs.DescribedFirmware.{avoided_in}
use Rattle.program_desc.proofs.ItemLemmas.{with_front}
use Rattle.program_desc.proofs.firmware.avoided.all_avoided_in.Given as goal

abbrev pub invariant-loop-i : goal.invariant-loop-i
invariant-loop-i g l =
    with_front l.avoided.items
    (each_item (in_table avoided_in) (items_view (drop l.i l.items)))
    ≡ each_item (in_table avoided_in) (items_view l.items)
