-- How long the groups of tags are that are written one after the other. Own.
use Rattle.std.specs.Prelude.{◌+◌, ◌*◌, ℕ, List, length, sum_by, Option, option_map, is_some}
use Rattle.bl_map.specs.Firmware.{SmbiosFacts}
use Rattle.bl_mbi.specs.declared.tag_types.TheConstants.{FRAMEBUFFER_BODY}
use Rattle.bl_mbi.specs.Size.{tag_size, tag_size_if, body_if, behind_8, map_entry_size}
use Rattle.bl_mbi.specs.Size.{loader_name_size}
use Rattle.bl_mbi.specs.InfoToWriteFacts.{InfoToWriteFacts, ModuleInfo, EfiTables}

-- the tags of modules
abbrev pub modules_size : List ModuleInfo → ℕ
modules_size modules = sum_by (λ m. tag_size (length m.line + 9)) modules

-- the command line, the loader's name, which is `bootcore`, and the modules
abbrev pub texts_size : InfoToWriteFacts → ℕ
texts_size facts =
    tag_size (length facts.line + 1) + loader_name_size
    + modules_size facts.modules

-- basic memory information, of 16 bytes, and the memory map, 16 bytes before its entries
abbrev pub memory_tags_size : InfoToWriteFacts → ℕ
memory_tags_size facts = 32 + map_entry_size * length facts.runs

-- the tag of SMBIOS's tables, and that of UEFI's memory map
abbrev pub smbios_tag_size : Option SmbiosFacts → ℕ
smbios_tag_size smbios = tag_size_if (behind_8 (option_map (λ s. length s.tables) smbios))

abbrev pub efi_map_tag_size : Option EfiTables → ℕ
efi_map_tag_size efi = tag_size_if (behind_8 (option_map (λ e. length e.map) efi))

-- the screen, the pointer to UEFI's system table, SMBIOS's tables
abbrev pub firmware_tags_size : InfoToWriteFacts → ℕ
firmware_tags_size facts =
    tag_size_if (body_if (is_some facts.screen) FRAMEBUFFER_BODY)
    + tag_size_if (body_if (is_some facts.efi) 8)
    + smbios_tag_size facts.smbios

-- the copies of ACPI's roots, and UEFI's memory map
abbrev pub copy_tags_size : InfoToWriteFacts → ℕ
copy_tags_size facts =
    tag_size_if (option_map length facts.rsdp_old) + tag_size_if (option_map length facts.rsdp_new)
    + efi_map_tag_size facts.efi

-- the load base and the end
abbrev pub closing_tags_size : InfoToWriteFacts → ℕ
closing_tags_size facts = tag_size_if (body_if (is_some facts.load_base) 4) + 8
