use Rattle.std.proofs.Common.{refl}
use Rattle.std.specs.Prelude.{codes}
use Rattle.std.proofs.lemmas.Result.{err_from_is_err_and}
use Rattle.toml.specs.View.{items_view, table_view}
use Rattle.program_desc.specs.TomlValues.{each_item, in_table}
use Rattle.program_desc.specs.Described.{region_in, toml_regions}
use Rattle.program_desc.specs.KeyRules.{optional_key}
use Rattle.program_desc.specs.declared.allowed.Allowed.TheVariants.{Tables}
use Rattle.program_desc.specs.BadKeys.{IsFaultAt}
use Rattle.program_desc.specs.declared.bad_key.TablePlace.TheVariants as places
use Rattle.program_desc.specs.declared.key_set.KeySet.TheVariants as keys
use Rattle.program_desc.proofs.ArrayLemmas.{at_table, no_list, optional_items, optional_none}
use Rattle.program_desc.proofs.FaultLemmas.{fault_as, of_whole, read_as}
use Rattle.program_desc.proofs.regions.regions_at.Goals as goal

pub returns-in_err-items : goal.returns-in_err-items
unfolding toml_regions
returns-in_err-items g c =
    let ms = table_view c.args.table.now in
    let p = err_from_is_err_and c.from_residual.result c.from_residual.ensures.1 in
    rw (p.1, p.2)
    (fault_as _ _ _ _ _ (optional_none (optional_key (codes "region") Tables) ms toml_regions _ refl (no_list (in_table region_in)))
    (of_whole 5 (optional_key (codes "region") Tables) ms _ refl refl) c.in_err-items.ensures)

pub returns : goal.returns
unfolding toml_regions
returns g c =
    let ms = table_view c.args.table.now in
    let items = c.in_ok-items.items.now in
    read_as _ _ _ c.regions_in.result _ _
    (optional_items (optional_key (codes "region") Tables) ms (items_view items) toml_regions (each_item (in_table region_in)) _
    tt refl (λ ds. refl) refl c.in_ok-items.ensures)
    (at_table (IsFaultAt ms) places.Region keys.Region (optional_key (codes "region") Tables) ms _ (λ i fault h. h) c.in_ok-items.ensures) c.regions_in.ensures
