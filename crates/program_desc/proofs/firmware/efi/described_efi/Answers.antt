use Rattle.std.proofs.Common.{refl}
use Rattle.std.proofs.lemmas.Result.{err_from_is_err_and}
use Rattle.program_desc.specs.DescribedFirmware.{described_efi}
use Rattle.program_desc.specs.declared.bad_key.TablePlace.TheVariants as places
use Rattle.program_desc.specs.declared.key_set.KeySet.TheVariants as keys
use Rattle.program_desc.proofs.FaultLemmas.{at_rule, fails_as, unknown_fails}
use Rattle.program_desc.proofs.firmware.efi.described_efi.Goals as goal

pub returns-in_err-check_keys : goal.returns-in_err-check_keys
unfolding described_efi
returns-in_err-check_keys g c =
    let p = err_from_is_err_and c.from_residual.result c.from_residual.ensures.1 in
    rw (p.1, p.2)
    (unknown_fails _ keys.Efi _ _ _ _ (λ bad is fault. (is, fault 0)) c.in_err-check_keys.ensures.err)

pub returns-in_err-bits : goal.returns-in_err-bits
unfolding described_efi
returns-in_err-bits g c =
    let p = err_from_is_err_and c.from_residual-in_err-bits.result c.from_residual-in_err-bits.ensures.1 in
    rw (p.1, p.2, c.in_ok-check_keys.ensures.ok)
    (fails_as _ _ _ _ _ (at_rule keys.Efi 0 _ places.Efi _ refl) c.in_err-bits.ensures)

pub returns-in_err-system_table : goal.returns-in_err-system_table
unfolding described_efi
returns-in_err-system_table g c =
    let p = err_from_is_err_and c.from_residual-in_err-system_table.result c.from_residual-in_err-system_table.ensures.1 in
    rw (p.1, p.2, c.in_ok-check_keys.ensures.ok, c.in_ok-bits.ensures)
    (fails_as _ _ _ _ _ (at_rule keys.Efi 1 _ places.Efi _ refl) c.in_err-system_table.ensures.value)

pub returns-in_err-map : goal.returns-in_err-map
unfolding described_efi
returns-in_err-map g c =
    let p = err_from_is_err_and c.from_residual-in_err-map.result c.from_residual-in_err-map.ensures.1 in
    rw (p.1, p.2, c.in_ok-check_keys.ensures.ok, c.in_ok-bits.ensures, c.in_ok-system_table.ensures.value)
    (fails_as _ _ _ _ _ (at_rule keys.Efi 2 _ places.Efi _ refl) c.in_err-map.ensures)

pub returns-in_err-map_address : goal.returns-in_err-map_address
unfolding described_efi
returns-in_err-map_address g c =
    let p = err_from_is_err_and c.from_residual-in_err-map_address.result c.from_residual-in_err-map_address.ensures.1 in
    rw (p.1, p.2, c.in_ok-check_keys.ensures.ok, c.in_ok-bits.ensures, c.in_ok-system_table.ensures.value, c.in_ok-map.ensures)
    (fails_as _ _ _ _ _ (at_rule keys.Efi 3 _ places.Efi _ refl) c.in_err-map_address.ensures.value)

pub returns-in_err-descriptor_size : goal.returns-in_err-descriptor_size
unfolding described_efi
returns-in_err-descriptor_size g c =
    let p = err_from_is_err_and c.from_residual-in_err-descriptor_size.result c.from_residual-in_err-descriptor_size.ensures.1 in
    rw (p.1, p.2, c.in_ok-check_keys.ensures.ok, c.in_ok-bits.ensures, c.in_ok-system_table.ensures.value, c.in_ok-map.ensures, c.in_ok-map_address.ensures.value)
    (fails_as _ _ _ _ _ (at_rule keys.Efi 4 _ places.Efi _ refl) c.in_err-descriptor_size.ensures)

pub returns-in_err-descriptor_version : goal.returns-in_err-descriptor_version
unfolding described_efi
returns-in_err-descriptor_version g c =
    let p = err_from_is_err_and c.from_residual-in_err-descriptor_version.result c.from_residual-in_err-descriptor_version.ensures.1 in
    rw (p.1, p.2, c.in_ok-check_keys.ensures.ok, c.in_ok-bits.ensures, c.in_ok-system_table.ensures.value, c.in_ok-map.ensures, c.in_ok-map_address.ensures.value, c.in_ok-descriptor_size.ensures)
    (fails_as _ _ _ _ _ (at_rule keys.Efi 5 _ places.Efi _ refl) c.in_err-descriptor_version.ensures)

pub returns-in_err-secure_boot : goal.returns-in_err-secure_boot
unfolding described_efi
returns-in_err-secure_boot g c =
    let p = err_from_is_err_and c.from_residual-in_err-secure_boot.result c.from_residual-in_err-secure_boot.ensures.1 in
    rw (p.1, p.2, c.in_ok-check_keys.ensures.ok, c.in_ok-bits.ensures, c.in_ok-system_table.ensures.value, c.in_ok-map.ensures, c.in_ok-map_address.ensures.value, c.in_ok-descriptor_size.ensures, c.in_ok-descriptor_version.ensures)
    (fails_as _ _ _ _ _ (at_rule keys.Efi 6 _ places.Efi _ refl) c.in_err-secure_boot.ensures)

pub returns : goal.returns
unfolding described_efi
returns g c = rw (c.in_ok-check_keys.ensures.ok, c.in_ok-bits.ensures, c.in_ok-system_table.ensures.value, c.in_ok-map.ensures, c.in_ok-map_address.ensures.value, c.in_ok-descriptor_size.ensures, c.in_ok-descriptor_version.ensures, c.in_ok-secure_boot.ensures, ← c.into_vec.ensures) refl
