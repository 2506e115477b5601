-- Boot parameters (Linux/x86 Boot Protocol, "Details of Header Fields" and "Zero Page"; a `struct
-- boot_params`).
use Rattle.std.specs.Prelude.{ℕ, List, [], ◌∷◌, ◌++◌, length, unwrap_or}
use Rattle.std.specs.List.{flat_map}
use Rattle.bl_map.specs.declared.region.Region.{Region}
use Rattle.bl_map.specs.Kinds.{kind_number}
use Rattle.bl_params.specs.ParamsToWriteFacts.{ParamsToWriteFacts}
use Rattle.bl_params.specs.FieldBytes.{number_bytes, bytes_of_fields}
use Rattle.bl_params.specs.ScreenInfo.{screen_info}
use Rattle.bl_params.specs.EfiInfo.{efi_info_bytes, secure_boot_byte}
use Rattle.bl_params.specs.SizesAndOffsets.{params_size}

-- an entry of "e820_table": addr, size, type
abbrev pub e820_entry_bytes : Region → List ℕ
e820_entry_bytes run =
    number_bytes 8 run.base ++ (number_bytes 8 run.length ++ number_bytes 4 (kind_number run.kind))

-- each field that the loader writes, at its offset, and then the header as it stands in the file,
-- of which those count that the loader does not write
abbrev pub fields_of : List ℕ → ParamsToWriteFacts → List (ℕ × List ℕ)
fields_of header facts =
    (0x000, screen_info facts.screen)  -- screen_info
    ∷ (0x070, number_bytes 8 (unwrap_or facts.rsdp 0))  -- acpi_rsdp_addr: 0 for none
    ∷ (0x1C0, efi_info_bytes facts.efi)  -- efi_info
    ∷ (0x1E8, length facts.runs ∷ [])  -- e820_entries
    ∷ (0x1EC, secure_boot_byte facts.efi ∷ [])  -- secure_boot
    ∷ (0x1FA, number_bytes 2 0xFFFF)  -- vid_mode: "normal"
    ∷ (0x210, 0xFF ∷ [])  -- type_of_loader: undefined
    ∷ (0x214, number_bytes 4 facts.code32_start)  -- code32_start
    ∷ (0x218, number_bytes 4 facts.ramdisk_image)  -- ramdisk_image
    ∷ (0x21C, number_bytes 4 facts.ramdisk_size)  -- ramdisk_size
    ∷ (0x228, number_bytes 4 facts.cmd_line_ptr)  -- cmd_line_ptr
    ∷ (0x250, number_bytes 8 0)  -- setup_data: none
    ∷ (0x2D0, flat_map e820_entry_bytes facts.runs)  -- e820_table
    ∷ (0x1F1, header)  -- the setup header, from setup_sects on
    ∷ []

-- all of them, with 0 where there is no field
unfoldable pub boot_params : List ℕ → ParamsToWriteFacts → List ℕ
boot_params header facts = bytes_of_fields params_size (fields_of header facts)
