use Rattle.std.proofs.Common.{◌≡◌, ◌<◌, ◌^◌, ℕ, [], length, ap, ◌∙◌, arith}
use Rattle.bl_map.specs.PoolFrames.{round_up_to_frames}
use Rattle.bl_mbi.specs.InfoToWriteFacts.{info_size}
use Rattle.bl_plan.specs.declared.part.Choice.TheVariants.{Lowest}
use Rattle.bl_plan.specs.declared.part.Role.TheVariants.{Information}
use Rattle.bl_plan.specs.declared.part.Row.{Row}
use Rattle.bl_load.specs.Rows.{information_of}
use Rattle.bl_load.specs.internal.CheckedEntries.{value_of_files}
use Rattle.bl_load.proofs.FirmwareLemmas.{efi_map_few, smbios_few, told_screen, told_efi}
use Rattle.bl_load.proofs.FirmwareLemmas.{told_smbios}
use Rattle.bl_load.proofs.LineLemmas.{all_short}
use Rattle.bl_load.proofs.InformationLemmas.{info_size_is, told_below, copy_short, tables_short}
use Rattle.bl_load.proofs.multiboot2.rows.information_row.Goals as goal

row_of : ℕ → Row
row_of length =
    record { role = Information; index = 0; length = length; choice = Lowest 4096 4096 0x100000000 }

pub module_tags_size-requires-clause-short : goal.module_tags_size-requires-clause-short
module_tags_size-requires-clause-short g c =
    all_short c.args.entry.now.modules.now c.args.entry.now.sound_modules

pub size_by_lengths-length-requires-clause-old : goal.size_by_lengths-length-requires-clause-old
size_by_lengths-length-requires-clause-old g c =
    rw c.length_of.ensures (copy_short _ c.args.entry.now.old)

pub size_by_lengths-length-requires-clause-new : goal.size_by_lengths-length-requires-clause-new
size_by_lengths-length-requires-clause-new g c =
    rw c.length_of-2.ensures (copy_short _ c.args.entry.now.new)

pub size_by_lengths-length-requires-clause-efi : goal.size_by_lengths-length-requires-clause-efi
size_by_lengths-length-requires-clause-efi g c =
    rw (c.efi_map_size.ensures, told_efi (c.firmware.view_is ∙ c.firmware-firmware.ensures.firmware))
    (tables_short _ (efi_map_few c.args.entry.now.machine.now c.normal.ensures.facts))

pub size_by_lengths-length-requires-clause-smbios : goal.size_by_lengths-length-requires-clause-smbios
size_by_lengths-length-requires-clause-smbios g c =
    rw (c.smbios_size.ensures, told_smbios (c.firmware.view_is ∙ c.firmware-firmware.ensures.firmware))
    (tables_short _ (smbios_few c.args.entry.now.machine.now c.normal.ensures.facts))

pub round_up_to_frames-requires : goal.round_up_to_frames-requires
round_up_to_frames-requires g c =
    let entry = c.args.entry.now in
    let told = c.firmware.view_is ∙ c.firmware-firmware.ensures.firmware in
    let size : c.size_by_lengths-length.result < 2 ^ 32 =
    rw (
      c.size_by_lengths-length.ensures,
      c.length_of.ensures,
      c.length_of-2.ensures,
      c.normal.ensures.runs,
      c.efi_map_size.ensures,
      told_efi told,
      c.smbios_size.ensures,
      told_smbios told,
    ) (told_below _ _ _ _ _ entry.rsdp_old.now entry.rsdp_new.now _ entry.short
    c.normal.ensures.facts.few (efi_map_few entry.machine.now c.normal.ensures.facts)
    (smbios_few entry.machine.now c.normal.ensures.facts) entry.old entry.new _
    (omega (arith, c.module_tags_size.ensures.small, entry.few))) in
    omega (arith, size)

pub returns : goal.returns
unfolding row_of
returns g c =
    let entry = c.args.entry.now in
    let facts = entry.machine.now in
    let value = value_of_files entry in
    let relocation = c.args.kernel.now.relocation in
    let told = c.firmware.view_is ∙ c.firmware-firmware.ensures.firmware in
    let e = info_size_is facts value relocation [] in
    let size : c.size_by_lengths-length.result
    ≡ info_size (information_of facts value relocation []) =
    rw (
      e,
      ← c.normal.ensures.runs,
      ← c.is_some.ensures,
      ← c.module_tags_size.ensures.value,
      ← c.length_of.ensures,
      ← c.length_of-2.ensures,
      ← told_efi told,
      ← c.efi_map_size.ensures,
      ← told_smbios told,
      ← c.smbios_size.ensures,
      ← told_screen told,
      ← c.is_some-2.ensures,
    ) c.size_by_lengths-length.ensures in
    ap row_of (c.round_up_to_frames.ensures ∙ ap round_up_to_frames size)
