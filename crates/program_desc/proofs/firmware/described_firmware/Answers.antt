use Rattle.std.proofs.Common.{refl}
use Rattle.std.proofs.lemmas.Result.{err_from_is_err_and}
use Rattle.toml.specs.View.{table_view}
use Rattle.program_desc.specs.DescribedFirmware.{described_firmware}
use Rattle.program_desc.specs.declared.bad_key.TablePlace.TheVariants as places
use Rattle.program_desc.specs.declared.key_set.KeySet.TheVariants as keys
use Rattle.program_desc.proofs.FaultLemmas.{fails_as, unknown_fails}
use Rattle.program_desc.proofs.FirmwareLemmas.{firmware_rule}
use Rattle.program_desc.proofs.firmware.described_firmware.Goals as goal

pub returns-in_err-check_keys : goal.returns-in_err-check_keys
unfolding described_firmware
returns-in_err-check_keys g c =
    let ms = table_view c.args.table.now in
    let p = err_from_is_err_and c.from_residual.result c.from_residual.ensures.1 in
    rw (p.1, p.2)
    (unknown_fails places.Firmware keys.Firmware ms _ _ _ (λ bad is fault. rw is (fault 0))
    c.in_err-check_keys.ensures.err)

pub returns-in_err-rsdp : goal.returns-in_err-rsdp
unfolding described_firmware
returns-in_err-rsdp g c =
    let p = err_from_is_err_and c.from_residual-in_err-rsdp.result c.from_residual-in_err-rsdp.ensures.1 in
    rw (p.1, p.2, c.in_ok-check_keys.ensures.ok)
    (fails_as _ _ _ _ _ (firmware_rule 0 _ _ refl) c.in_err-rsdp.ensures)

pub returns-in_err-screen : goal.returns-in_err-screen
unfolding described_firmware
returns-in_err-screen g c =
    let p = err_from_is_err_and c.from_residual-in_err-screen.result c.from_residual-in_err-screen.ensures.1 in
    rw (p.1, p.2, c.in_ok-check_keys.ensures.ok, c.in_ok-rsdp.ensures)
    (fails_as _ _ _ _ _ (λ bad h. h) c.in_err-screen.ensures)

pub returns-in_err-efi : goal.returns-in_err-efi
unfolding described_firmware
returns-in_err-efi g c =
    let p = err_from_is_err_and c.from_residual-in_err-efi.result c.from_residual-in_err-efi.ensures.1 in
    rw (p.1, p.2, c.in_ok-check_keys.ensures.ok, c.in_ok-rsdp.ensures, c.in_ok-screen.ensures)
    (fails_as _ _ _ _ _ (λ bad h. h) c.in_err-efi.ensures)

pub returns-in_err-smbios : goal.returns-in_err-smbios
unfolding described_firmware
returns-in_err-smbios g c =
    let p = err_from_is_err_and c.from_residual-in_err-smbios.result c.from_residual-in_err-smbios.ensures.1 in
    rw (p.1, p.2, c.in_ok-check_keys.ensures.ok, c.in_ok-rsdp.ensures, c.in_ok-screen.ensures, c.in_ok-efi.ensures)
    (fails_as _ _ _ _ _ (λ bad h. h) c.in_err-smbios.ensures)

pub returns : goal.returns
unfolding described_firmware
returns g c = rw (c.in_ok-check_keys.ensures.ok, c.in_ok-rsdp.ensures, c.in_ok-screen.ensures, c.in_ok-efi.ensures, c.in_ok-smbios.ensures) refl
