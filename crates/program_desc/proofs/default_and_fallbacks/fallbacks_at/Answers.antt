use Rattle.std.proofs.Common.{refl}
use Rattle.std.specs.Prelude.{codes}
use Rattle.std.proofs.lemmas.Result.{err_from_is_err_and}
use Rattle.toml.specs.View.{items_view, table_view}
use Rattle.program_desc.specs.TomlValues.{each_item, toml_index, toml_indices}
use Rattle.program_desc.specs.KeyRules.{optional_key}
use Rattle.program_desc.specs.declared.allowed.Allowed.TheVariants.{IndexBelow, Indices}
use Rattle.program_desc.proofs.ArrayLemmas.{item_breaks, no_list, optional_items, optional_none}
use Rattle.program_desc.proofs.ArrayLemmas.{with_items-broken}
use Rattle.program_desc.proofs.FaultLemmas.{fault_as, read_as}
use Rattle.program_desc.proofs.default_and_fallbacks.fallbacks_at.Goals as goal

pub returns-in_err-items : goal.returns-in_err-items
returns-in_err-items g c =
    let ms = table_view c.args.table.now in
    let rule = optional_key (codes "fallback") Indices in
    let p = err_from_is_err_and c.from_residual.result c.from_residual.ensures.1 in
    rw (p.1, p.2)
    (fault_as _ _ _ _ _
    (optional_none rule ms (toml_indices c.args.count) _ refl (no_list (toml_index c.args.count)))
    (with_items-broken rule (IndexBelow c.args.count) ms refl _) c.in_err-items.ensures)

pub returns : goal.returns
returns g c =
    let ms = table_view c.args.table.now in
    let rule = optional_key (codes "fallback") Indices in
    let items = items_view c.in_ok-items.items.now in
    read_as _ _ _ c.indices_in.result _ _
    (optional_items rule ms items (toml_indices c.args.count) (each_item (toml_index c.args.count)) _
    tt refl (λ ds. refl) refl c.in_ok-items.ensures)
    (λ bad h. item_breaks rule (IndexBelow c.args.count) ms items bad c.in_ok-items.ensures h)
    c.indices_in.ensures
