use Rattle.std.proofs.Common.{refl}
use Rattle.std.specs.Prelude.{codes}
use Rattle.std.proofs.lemmas.List.{length-map}
use Rattle.std.proofs.lemmas.Result.{err_from_is_err_and}
use Rattle.toml.specs.Data.{get_member}
use Rattle.toml.specs.View.{table_view}
use Rattle.program_desc.specs.Described as spec
use Rattle.program_desc.specs.BadKeys.{count_at}
use Rattle.program_desc.specs.declared.key_set.KeySet.TheVariants as keys
use Rattle.program_desc.proofs.EntryLemmas.{entries_counted, entries_few, menu_by}
use Rattle.program_desc.proofs.FaultLemmas.{fails_as, of_whole, unknown_fails}
use Rattle.program_desc.proofs.desc.described_in.Goals as goal

pub count_of-count-requires : goal.count_of-count-requires
count_of-count-requires g c =
    rw c.deref.ensures.value (rw length-map at (entries_few _ _ c.in_ok-entries.ensures).1)

pub returns-in_err-check_keys-clause-given : goal.returns-in_err-check_keys-clause-given
unfolding spec.described_in
returns-in_err-check_keys-clause-given g c =
    let ms = table_view c.args.table.now in
    let p = err_from_is_err_and c.from_residual.result c.from_residual.ensures.1 in
    rw (p.1, p.2)
    (unknown_fails _ keys.Description ms _ _ _
    (λ bad is fault. rw is (fault (count_at (codes "entry") ms))) c.in_err-check_keys.ensures.err)

pub returns-in_err-size-clause-given : goal.returns-in_err-size-clause-given
unfolding spec.described_in
returns-in_err-size-clause-given g c =
    let ms = table_view c.args.table.now in
    let p = err_from_is_err_and c.from_residual-in_err-size.result c.from_residual-in_err-size.ensures.1 in
    rw (
      p.1,
      p.2,
      c.in_ok-check_keys.ensures.ok,
    )
    (fails_as _ _ _ _ _ (of_whole 0 _ ms _ refl refl) c.in_err-size.ensures.value)

pub returns-in_err-pool-clause-given : goal.returns-in_err-pool-clause-given
unfolding spec.described_in
returns-in_err-pool-clause-given g c =
    let ms = table_view c.args.table.now in
    let p = err_from_is_err_and c.from_residual-in_err-pool.result c.from_residual-in_err-pool.ensures.1 in
    rw (
      p.1,
      p.2,
      c.in_ok-check_keys.ensures.ok,
      c.in_ok-size.ensures.value,
    )
    (fails_as _ _ _ _ _ (λ bad h. h) c.in_err-pool.ensures)

pub returns-in_err-fill-clause-given : goal.returns-in_err-fill-clause-given
unfolding spec.described_in
returns-in_err-fill-clause-given g c =
    let ms = table_view c.args.table.now in
    let p = err_from_is_err_and c.from_residual-in_err-fill.result c.from_residual-in_err-fill.ensures.1 in
    rw (
      p.1,
      p.2,
      c.in_ok-check_keys.ensures.ok,
      c.in_ok-size.ensures.value,
      c.in_ok-pool.ensures,
    )
    (fails_as _ _ _ _ _ (of_whole 2 _ ms _ refl refl) c.in_err-fill.ensures)

pub returns-in_err-regions-clause-given : goal.returns-in_err-regions-clause-given
unfolding spec.described_in
returns-in_err-regions-clause-given g c =
    let ms = table_view c.args.table.now in
    let p = err_from_is_err_and c.from_residual-in_err-regions.result c.from_residual-in_err-regions.ensures.1 in
    rw (
      p.1,
      p.2,
      c.in_ok-check_keys.ensures.ok,
      c.in_ok-size.ensures.value,
      c.in_ok-pool.ensures,
      c.in_ok-fill.ensures,
    )
    (fails_as _ _ _ _ _ (λ bad h. h) c.in_err-regions.ensures)

pub returns-in_err-avoided-clause-given : goal.returns-in_err-avoided-clause-given
unfolding spec.described_in
returns-in_err-avoided-clause-given g c =
    let ms = table_view c.args.table.now in
    let p = err_from_is_err_and c.from_residual-in_err-avoided.result c.from_residual-in_err-avoided.ensures.1 in
    rw (
      p.1,
      p.2,
      c.in_ok-check_keys.ensures.ok,
      c.in_ok-size.ensures.value,
      c.in_ok-pool.ensures,
      c.in_ok-fill.ensures,
      c.in_ok-regions.ensures,
    )
    (fails_as _ _ _ _ _ (λ bad h. h) c.in_err-avoided.ensures)

pub returns-in_err-firmware-clause-given : goal.returns-in_err-firmware-clause-given
unfolding spec.described_in
returns-in_err-firmware-clause-given g c =
    let ms = table_view c.args.table.now in
    let p = err_from_is_err_and c.from_residual-in_err-firmware.result c.from_residual-in_err-firmware.ensures.1 in
    rw (
      p.1,
      p.2,
      c.in_ok-check_keys.ensures.ok,
      c.in_ok-size.ensures.value,
      c.in_ok-pool.ensures,
      c.in_ok-fill.ensures,
      c.in_ok-regions.ensures,
      c.in_ok-avoided.ensures,
    )
    (fails_as _ _ _ _ _ (λ bad h. h) c.in_err-firmware.ensures)

pub returns-in_err-files-clause-given : goal.returns-in_err-files-clause-given
unfolding spec.described_in
returns-in_err-files-clause-given g c =
    let ms = table_view c.args.table.now in
    let p = err_from_is_err_and c.from_residual-in_err-files.result c.from_residual-in_err-files.ensures.1 in
    rw (
      p.1,
      p.2,
      c.in_ok-check_keys.ensures.ok,
      c.in_ok-size.ensures.value,
      c.in_ok-pool.ensures,
      c.in_ok-fill.ensures,
      c.in_ok-regions.ensures,
      c.in_ok-avoided.ensures,
      c.in_ok-firmware.ensures,
    )
    (fails_as _ _ _ _ _ (λ bad h. h) c.in_err-files.ensures)

pub returns-in_err-entries-clause-given : goal.returns-in_err-entries-clause-given
unfolding spec.described_in
returns-in_err-entries-clause-given g c =
    let ms = table_view c.args.table.now in
    let p = err_from_is_err_and c.from_residual-in_err-entries.result c.from_residual-in_err-entries.ensures.1 in
    rw (
      p.1,
      p.2,
      c.in_ok-check_keys.ensures.ok,
      c.in_ok-size.ensures.value,
      c.in_ok-pool.ensures,
      c.in_ok-fill.ensures,
      c.in_ok-regions.ensures,
      c.in_ok-avoided.ensures,
      c.in_ok-firmware.ensures,
      c.in_ok-files.ensures,
    )
    (fails_as _ _ _ _ _ (λ bad h. h) c.in_err-entries.ensures)

pub returns-in_err-default-clause-given : goal.returns-in_err-default-clause-given
unfolding spec.described_in
returns-in_err-default-clause-given g c =
    let ms = table_view c.args.table.now in
    let count = entries_counted (get_member (codes "entry") ms) _ c.in_ok-entries.ensures in
    let fails = rw (c.count_of-count.ensures, c.deref.ensures.value) at c.in_err-default.ensures in
    let p = err_from_is_err_and c.from_residual-in_err-default.result c.from_residual-in_err-default.ensures.1 in
    rw (
      p.1,
      p.2,
      c.in_ok-check_keys.ensures.ok,
      c.in_ok-size.ensures.value,
      c.in_ok-pool.ensures,
      c.in_ok-fill.ensures,
      c.in_ok-regions.ensures,
      c.in_ok-avoided.ensures,
      c.in_ok-firmware.ensures,
      c.in_ok-files.ensures,
      c.in_ok-entries.ensures,
    )
    (fails_as _ _ _ _ _ (of_whole 3 _ ms _ count refl) fails)

pub returns-in_err-fallbacks-clause-given : goal.returns-in_err-fallbacks-clause-given
unfolding spec.described_in
returns-in_err-fallbacks-clause-given g c =
    let ms = table_view c.args.table.now in
    let count = entries_counted (get_member (codes "entry") ms) _ c.in_ok-entries.ensures in
    let default = rw (c.count_of-count.ensures, c.deref.ensures.value) at c.in_ok-default.ensures in
    let fails = rw (c.count_of-count.ensures, c.deref.ensures.value) at c.in_err-fallbacks.ensures in
    let p = err_from_is_err_and c.from_residual-in_err-fallbacks.result c.from_residual-in_err-fallbacks.ensures.1 in
    rw (
      p.1,
      p.2,
      c.in_ok-check_keys.ensures.ok,
      c.in_ok-size.ensures.value,
      c.in_ok-pool.ensures,
      c.in_ok-fill.ensures,
      c.in_ok-regions.ensures,
      c.in_ok-avoided.ensures,
      c.in_ok-firmware.ensures,
      c.in_ok-files.ensures,
      c.in_ok-entries.ensures,
      default,
    )
    (fails_as _ _ _ _ _ (of_whole 4 _ ms _ count refl) fails)

pub returns-clause-given : goal.returns-clause-given
unfolding spec.described_in
returns-clause-given g c =
    let default = rw (c.count_of-count.ensures, c.deref.ensures.value) at c.in_ok-default.ensures in
    let fallbacks = rw (c.count_of-count.ensures, c.deref.ensures.value) at c.in_ok-fallbacks.ensures in
    rw (
      c.in_ok-check_keys.ensures.ok,
      c.in_ok-size.ensures.value,
      c.in_ok-pool.ensures,
      c.in_ok-fill.ensures,
      c.in_ok-regions.ensures,
      c.in_ok-avoided.ensures,
      c.in_ok-firmware.ensures,
      c.in_ok-files.ensures,
      c.in_ok-entries.ensures,
      default,
      fallbacks,
    ) refl

pub returns-clause-menu : goal.returns-clause-menu
returns-clause-menu g c =
    let default = rw (c.count_of-count.ensures, c.deref.ensures.value) at c.in_ok-default.ensures in
    let fallbacks = rw (c.count_of-count.ensures, c.deref.ensures.value) at c.in_ok-fallbacks.ensures in
    menu_by c.in_ok-entries.entries.items _ _ (table_view c.args.table.now) c.in_ok-entries.ensures
    default fallbacks
