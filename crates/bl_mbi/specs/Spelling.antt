-- The one spelling of boot information in bytes (Multiboot2 3.6 "Boot information format").
use Rattle.std.specs.Prelude.{◌+◌, ℕ, List, [], ◌++◌, length, option_map}
use Rattle.std.specs.List.{flat_map}
use Rattle.bl_mem.specs.LittleEndian.{u32_bytes}
use Rattle.bl_mbi.specs.declared.tag_types.TheConstants.{TAG_COMMAND_LINE, TAG_BOOT_LOADER_NAME}
use Rattle.bl_mbi.specs.declared.tag_types.TheConstants.{TAG_BASIC_MEMORY, TAG_MEMORY_MAP}
use Rattle.bl_mbi.specs.declared.tag_types.TheConstants.{TAG_FRAMEBUFFER, TAG_SMBIOS, TAG_ACPI_OLD}
use Rattle.bl_mbi.specs.declared.tag_types.TheConstants.{TAG_ACPI_NEW, TAG_EFI_MAP, TAG_LOAD_BASE}
use Rattle.bl_mbi.specs.declared.tag_types.TheConstants.{TAG_END}
use Rattle.bl_mbi.specs.InfoToWriteFacts.{InfoToWriteFacts}
use Rattle.bl_mbi.specs.Tags.{tag, tag_if, text_body, module_tag, memory_body, map_body}
use Rattle.bl_mbi.specs.Tags.{screen_body, pointer_tag, smbios_body, efi_map_body}

-- the tags that may be missing, and the one that ends the information
abbrev pub optional_tags : InfoToWriteFacts → List ℕ
optional_tags facts =
    tag_if TAG_FRAMEBUFFER (option_map screen_body facts.screen)
    ++ (pointer_tag facts.efi
    ++ (tag_if TAG_SMBIOS (option_map smbios_body facts.smbios)
    ++ (tag_if TAG_ACPI_OLD facts.rsdp_old
    ++ (tag_if TAG_ACPI_NEW facts.rsdp_new
    ++ (tag_if TAG_EFI_MAP (option_map efi_map_body facts.efi)
    ++ (tag_if TAG_LOAD_BASE (option_map u32_bytes facts.load_base) ++ tag TAG_END []))))))

-- the tags; their order is own, the standard leaves it open
abbrev pub tags : List ℕ → InfoToWriteFacts → List ℕ
tags name facts =
    tag TAG_COMMAND_LINE (text_body facts.line)
    ++ (tag TAG_BOOT_LOADER_NAME (text_body name)
    ++ (flat_map module_tag facts.modules
    ++ (tag TAG_BASIC_MEMORY (memory_body facts.mem_lower facts.mem_upper)
    ++ (tag TAG_MEMORY_MAP (map_body facts.runs) ++ optional_tags facts))))

-- "Basic structure": total_size, reserved, the tags; by the loader's name and the facts
unfoldable pub info_spelling : List ℕ → InfoToWriteFacts → List ℕ
info_spelling name facts = u32_bytes (8 + length (tags name facts))
    ++ (u32_bytes 0 ++ tags name facts)
