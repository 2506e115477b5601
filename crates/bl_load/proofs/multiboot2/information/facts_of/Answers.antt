use Rattle.std.proofs.Common.{◌+◌, length, arith, sym, subst}
use Rattle.std.specs.Prelude.{map, is_some, option_map, sum_by}
use Rattle.bl_mbi.specs.InfoToWriteFacts.{IsText, ModuleInfo}
use Rattle.bl_mbi.specs.Size.{tag_size}
use Rattle.bl_load.proofs.FirmwareLemmas.{efi_map_few, smbios_few, machine_screen, machine_efi}
use Rattle.bl_load.proofs.FirmwareLemmas.{machine_smbios}
use Rattle.bl_load.proofs.InformationLemmas.{told_below, same_map_size}
use Rattle.bl_load.proofs.multiboot2.information.facts_of.Goals as goal

pub invariant_of-result : goal.invariant_of-result
invariant_of-result g c =
    let entry = c.args.entry.now in
    let line = entry.line.now in
    let facts = c.normal.ensures.facts in
    let firmware = entry.machine.now.firmware in
    let short =
    told_below (length line) (length entry.machine.now.runs) (is_some firmware.screen)
    (option_map (λ told. length told.map) firmware.efi)
    (option_map (λ told. length told.tables) firmware.smbios) entry.rsdp_old.now
    entry.rsdp_new.now (is_some c.args.load_base) entry.short facts.few
    (efi_map_few entry.machine.now facts) (smbios_few entry.machine.now facts) entry.old entry.new
    (sum_by (λ n. tag_size (n + 9))
    (map (λ (m : ModuleInfo). length m.line) c.args.modules.now)) c.requires.small in
    record {
      told = record {
        line = subst IsText (sym c.text_of.ensures.same) c.text_of.ensures.text;
        modules = c.requires.modules;
        mem_lower = c.low_kib.ensures.most;
        mem_upper = c.high_kib.ensures.most;
        runs = rw c.normal.ensures.runs facts.runs.low;
        screen = rw c.requires.screen (machine_screen entry.machine.now facts);
        efi = rw c.requires.efi (machine_efi entry.machine.now facts);
        smbios = rw c.requires.smbios (machine_smbios entry.machine.now facts);
        rsdp_old = rw c.bytes_of.ensures.same c.bytes_of.ensures.bytes;
        rsdp_new = rw c.bytes_of-2.ensures.same c.bytes_of-2.ensures.bytes;
        load_base = c.requires.base;
      };
      small =
          rw (
            c.text_of.ensures.same,
            c.normal.ensures.runs,
            c.bytes_of.ensures.same,
            c.bytes_of-2.ensures.same,
            c.requires.screen,
            c.requires.efi,
            c.requires.smbios,
            same_map_size firmware.efi,
          ) (omega (arith, short));
    }
