use Rattle.std.proofs.Common.{◌≡◌, drop}
use Rattle.toml.specs.View.{items_view}
use Rattle.program_desc.specs.TomlValues.{each_item, toml_index}
use Rattle.program_desc.proofs.ItemLemmas.{with_front}
use Rattle.program_desc.proofs.default_and_fallbacks.indices_in.Given as goal

abbrev pub invariant-loop-i : goal.invariant-loop-i
invariant-loop-i g l =
    with_front l.indices.items
    (each_item (toml_index l.count) (items_view (drop l.i l.items)))
    ≡ each_item (toml_index l.count) (items_view l.items)
