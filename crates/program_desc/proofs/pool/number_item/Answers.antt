use Rattle.std.proofs.Common.{refl}
use Rattle.toml.specs.View.{items_view, view}
use Rattle.program_desc.specs.TomlValues.{toml_number}
use Rattle.program_desc.specs.declared.allowed.Allowed.TheVariants.{Number}
use Rattle.program_desc.proofs.ArrayLemmas.{item_reads}
use Rattle.program_desc.proofs.ItemLemmas.{item_here}
use Rattle.program_desc.proofs.pool.number_item.Goals as goal

pub returns : goal.returns
returns c =
    let ds = items_view c.args.items.now in
    let here =
    item_here c.args.items.now c.args.i c.index-items-i.result c.requires c.index-items-i.is in
    rw (c.ok_or.ensures.value, c.bad_item.ensures, here)
    (item_reads c.toml_number.result (toml_number (view c.index-items-i.result)) _ c.args.i _ Number
    ds here c.toml_number.ensures.value refl)
