use Rattle.std.proofs.Common.{inr}
use Rattle.bl_map.proofs.firmware.checks.firmware_fault.Goals as goal

pub returns-in-Some-avoided_fault : goal.returns-in-Some-avoided_fault
returns-in-Some-avoided_fault c =
    let screen = c.in_default.ensures in
    let rsdp = c.in_default-rsdp_fault.ensures in
    let efi = c.in_default-efi_fault.ensures in
    let smbios = c.in_default-smbios_fault.ensures in
    rw (← c.firmware.view_is)
    (inr (screen, inr (rsdp, inr (efi, inr (smbios, c.in-Some-avoided_fault.ensures)))))
