use Rattle.std.proofs.Common.{refl}
use Rattle.std.specs.Prelude.{codes}
use Rattle.std.proofs.lemmas.Result.{err_from_is_err_and}
use Rattle.toml.specs.View.{items_view, table_view}
use Rattle.program_desc.specs.TomlValues.{toml_range}
use Rattle.program_desc.specs.KeyRules.{required_key, with_items}
use Rattle.program_desc.specs.declared.allowed.Allowed.TheVariants.{Number, TwoNumbers}
use Rattle.program_desc.proofs.ArrayLemmas.{item_breaks, pool_counted, pool_none, pool_read}
use Rattle.program_desc.proofs.ArrayLemmas.{required_none, with_items-broken}
use Rattle.program_desc.proofs.FaultLemmas.{fault_as, of_whole, read_as}
use Rattle.program_desc.proofs.pool.pool_at.Goals as goal

pub range_in-requires : goal.range_in-requires
range_in-requires c =
    pool_counted (table_view c.args.table.now) c.in_ok-items.items.now c.in_ok-items.ensures

pub returns-in_err-items : goal.returns-in_err-items
returns-in_err-items c =
    let ms = table_view c.args.table.now in
    let rule = required_key (codes "pool") TwoNumbers in
    let p = err_from_is_err_and c.from_residual.result c.from_residual.ensures.1 in
    rw (p.1, p.2)
    (fault_as _ _ _ _ _ (required_none rule ms toml_range refl pool_none)
    (λ bad h. of_whole 1 (with_items rule Number) ms _ refl refl bad
    (with_items-broken rule Number ms refl _ bad h)) c.in_err-items.ensures)

pub returns : goal.returns
returns c =
    let ms = table_view c.args.table.now in
    let rule = required_key (codes "pool") TwoNumbers in
    let items = items_view c.in_ok-items.items.now in
    read_as _ _ _ c.range_in.result _ _ (pool_read ms items c.in_ok-items.ensures)
    (λ bad h. of_whole 1 (with_items rule Number) ms _ refl refl bad
    (item_breaks rule Number ms items bad c.in_ok-items.ensures h)) c.range_in.ensures
