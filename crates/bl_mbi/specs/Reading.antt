-- Reading boot information: what bytes tell, or the first fault and where it stands (Multiboot2 3.6
-- "Boot information format"; the order of tags and of faults is own).
use Rattle.std.specs.Prelude.{◌==◌, ℕ, zero, suc, not, if◌then◌else◌, nat_lt, List, [], ◌∷◌, length}
use Rattle.std.specs.Prelude.{drop, Option, Some, None, Result, Ok, Err}
use Rattle.bl_map.specs.declared.firmware.efi.EfiBits.{EfiBits}
use Rattle.bl_map.specs.declared.firmware.efi.EfiBits.TheVariants.{Efi32, Efi64}
use Rattle.bl_map.specs.declared.region.Region.{Region}
use Rattle.bl_map.specs.Firmware.{SmbiosFacts}
use Rattle.bl_mbi.specs.declared.fault.InfoFault.{InfoFault}
use Rattle.bl_mbi.specs.declared.fault.InfoFault.TheVariants.{WrongLength, BadReserved, BadTag}
use Rattle.bl_mbi.specs.declared.fault.InfoFault.TheVariants.{BadOrder}
use Rattle.bl_mbi.specs.declared.tag_types.TheConstants.{TAG_COMMAND_LINE, TAG_BOOT_LOADER_NAME}
use Rattle.bl_mbi.specs.declared.tag_types.TheConstants.{TAG_MODULE, TAG_BASIC_MEMORY}
use Rattle.bl_mbi.specs.declared.tag_types.TheConstants.{TAG_MEMORY_MAP, TAG_FRAMEBUFFER, TAG_EFI32}
use Rattle.bl_mbi.specs.declared.tag_types.TheConstants.{TAG_SMBIOS, TAG_ACPI_OLD, TAG_ACPI_NEW}
use Rattle.bl_mbi.specs.declared.tag_types.TheConstants.{TAG_EFI_MAP, TAG_LOAD_BASE, TAG_END}
use Rattle.bl_mbi.specs.InfoToWriteFacts.{EfiTables, ModuleInfo}
use Rattle.bl_mbi.specs.ReadingSteps.{◌>>=◌, RestFacts, first_u32, is_next, next_info_tag}
use Rattle.bl_mbi.specs.ReadingSteps.{required_at, optional_at}
use Rattle.bl_mbi.specs.Bodies.{text_of_body, module_of, memory_of, map_of, load_base_of}
use Rattle.bl_mbi.specs.FirmwareBodies.{framebuffer_of, pointer_of, smbios_of, efi_tables_of}
use Rattle.bl_mbi.specs.FirmwareBodies.{copy_of}
use Rattle.bl_mbi.specs.InfoFacts.{InfoFacts}
use Rattle.bl_mbi.specs.Size.{min_info_size}
use Rattle.bl_mbi.specs.Tags.{pointer_type}

-- the modules up to the first tag of another type, but no more than so many
abbrev pub modules_upto : ℕ → RestFacts → Result (List ModuleInfo × RestFacts) InfoFault
modules_upto zero left = Ok ([], left)
modules_upto (suc n) left =
    if not (is_next TAG_MODULE left) then Ok ([], left) else do
      first ← required_at TAG_MODULE module_of left
      more ← modules_upto n first.1
      Ok (first.0 ∷ more.0, more.1)

-- all of them: each takes a byte at least, so that there are never more
unfoldable pub modules_at : RestFacts → Result (List ModuleInfo × RestFacts) InfoFault
modules_at left = modules_upto (length left.bytes) left

-- the command line, the loader's name, the modules
unfoldable pub text_and_module_tags_at : RestFacts
    → Result ((List ℕ × List ℕ × List ModuleInfo) × RestFacts) InfoFault
text_and_module_tags_at left = do
  line ← required_at TAG_COMMAND_LINE text_of_body left
  name ← required_at TAG_BOOT_LOADER_NAME text_of_body line.1
  modules ← modules_at name.1
  Ok ((line.0, name.0, modules.0), modules.1)

-- basic memory information, the memory map
unfoldable pub memory_tags_at : RestFacts → Result (((ℕ × ℕ) × List Region) × RestFacts) InfoFault
memory_tags_at left = do
  memory ← required_at TAG_BASIC_MEMORY memory_of left
  runs ← required_at TAG_MEMORY_MAP map_of memory.1
  Ok ((memory.0, runs.0), runs.1)

-- with which bits UEFI's system table is told, where it is told
abbrev pub next_bits : RestFacts → EfiBits
next_bits left = if is_next TAG_EFI32 left then Efi32 else Efi64

abbrev pub pointer_at : RestFacts → Result (Option (EfiBits × ℕ) × RestFacts) InfoFault
pointer_at left = optional_at (pointer_type (next_bits left)) (pointer_of (next_bits left)) left

-- UEFI's memory map stands where its system table was told, and only there
abbrev pub efi_at : Option (EfiBits × ℕ) → RestFacts
    → Result (Option EfiTables × RestFacts) InfoFault
efi_at None left = Ok (None, left)
efi_at (Some pointer) left = do
  efi ← required_at TAG_EFI_MAP (efi_tables_of pointer) left
  Ok (Some efi.0, efi.1)

-- the tables of UEFI, of SMBIOS, and the copies of ACPI's
unfoldable pub table_tags_at : RestFacts
    → Result ((Option EfiTables × Option SmbiosFacts × Option (List ℕ) × Option (List ℕ))
    × RestFacts) InfoFault
table_tags_at left = do
  pointer ← pointer_at left
  smbios ← optional_at TAG_SMBIOS smbios_of pointer.1
  old ← optional_at TAG_ACPI_OLD copy_of smbios.1
  new ← optional_at TAG_ACPI_NEW copy_of old.1
  efi ← efi_at pointer.0 new.1
  Ok ((efi.0, smbios.0, old.0, new.0), efi.1)

-- the tag that ends the information, with nothing after it
unfoldable pub end_at : RestFacts → Result (Unit {0}) InfoFault
end_at left = do
  tag ← next_info_tag TAG_END left
  if not (length tag.0 == 0) then Err (BadTag left.at) else
      if length tag.1.bytes == 0 then Ok tt else Err (BadOrder tag.1.at)

-- the tags in their order
unfoldable pub info_of_tags : RestFacts → Result InfoFacts InfoFault
info_of_tags left = do
  texts ← text_and_module_tags_at left
  memory ← memory_tags_at texts.1
  screen ← optional_at TAG_FRAMEBUFFER framebuffer_of memory.1
  tables ← table_tags_at screen.1
  base ← optional_at TAG_LOAD_BASE load_base_of tables.1
  end ← end_at base.1
  Ok record {
    name = texts.0.1;
    facts = record {
      line = texts.0.0;
      modules = texts.0.2;
      mem_lower = memory.0.0.0;
      mem_upper = memory.0.0.1;
      runs = memory.0.1;
      screen = screen.0;
      efi = tables.0.0;
      smbios = tables.0.1;
      rsdp_old = tables.0.2;
      rsdp_new = tables.0.3;
      load_base = base.0;
    };
  }

-- "Basic structure": total_size, reserved, the tags
unfoldable pub info_of : List ℕ → Result InfoFacts InfoFault
info_of bytes =
    if nat_lt (length bytes) min_info_size then Err WrongLength else
    if not (first_u32 bytes == length bytes) then Err WrongLength else
    if not (first_u32 (drop 4 bytes) == 0) then Err BadReserved else
    info_of_tags record { at = 8; bytes = drop 8 bytes }
