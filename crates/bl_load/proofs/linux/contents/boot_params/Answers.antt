use Rattle.std.proofs.Common.{ap, ◌∙◌}
use Rattle.bl_map.specs.Firmware.{FirmwareFacts}
use Rattle.bl_load.proofs.FirmwareLemmas.{machine_screen, machine_rsdp, machine_efi_info}
use Rattle.bl_load.proofs.linux.contents.boot_params.Goals as goal

pub invariant_of-facts : goal.invariant_of-facts
invariant_of-facts g c =
    let facts = c.args.entry.now.machine.now in
    let machine = c.normal.ensures.facts in
    let told = c.firmware.view_is ∙ c.firmware-firmware.ensures.firmware in (
      record {
        few = rw c.normal.ensures.runs c.requires.few;
        low = rw c.normal.ensures.runs machine.runs.low;
      },
      record {
        screen = rw (ap (λ (f : FirmwareFacts). f.screen) told) (machine_screen facts machine);
        rsdp = rw (ap (λ (f : FirmwareFacts). f.rsdp) told) (machine_rsdp facts machine);
        efi =
            rw (c.efi_info.ensures, ap (λ (f : FirmwareFacts). f.efi) told)
            (machine_efi_info facts machine);
      },
    )
