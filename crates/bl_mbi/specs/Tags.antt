-- The tags of boot information (Multiboot2 3.6.2 "Basic tags structure"), each by its body.
use Rattle.std.specs.Prelude.{◌+◌, ◌-◌, ◌%◌, ℕ, List, [], ◌∷◌, ◌++◌, length, replicate, Option}
use Rattle.std.specs.Prelude.{Some, None}
use Rattle.std.specs.List.{flat_map}
use Rattle.bl_map.specs.declared.firmware.efi.EfiBits.{EfiBits}
use Rattle.bl_map.specs.declared.firmware.efi.EfiBits.TheVariants.{Efi32, Efi64}
use Rattle.bl_map.specs.declared.firmware.screen.ColorField.{ColorField}
use Rattle.bl_map.specs.declared.firmware.screen.Screen.{Screen}
use Rattle.bl_map.specs.declared.region.Region.{Region}
use Rattle.bl_map.specs.Firmware.{SmbiosFacts}
use Rattle.bl_map.specs.Kinds.{kind_number}
use Rattle.bl_mem.specs.LittleEndian.{u32_bytes, u64_bytes}
use Rattle.bl_mbi.specs.declared.tag_types.TheConstants.{TAG_MODULE, TAG_EFI32, TAG_EFI64}
use Rattle.bl_mbi.specs.declared.tag_types.TheConstants.{DIRECT_COLOR}
use Rattle.bl_mbi.specs.InfoToWriteFacts.{EfiTables, ModuleInfo}
use Rattle.bl_mbi.specs.Size.{map_entry_size}

-- zeros after so many bytes, up to the next multiple of 8
abbrev pub padding : ℕ → List ℕ
padding n = replicate ((8 - n % 8) % 8) 0

-- type, size without the padding, body, padding
abbrev pub tag : ℕ → List ℕ → List ℕ
tag kind body = u32_bytes kind ++ (u32_bytes (8 + length body) ++ (body ++ padding (length body)))

-- a tag that may be missing
abbrev pub tag_if : ℕ → Option (List ℕ) → List ℕ
tag_if kind None = []
tag_if kind (Some body) = tag kind body

-- a text ends in a zero byte: 3.6.5 "Boot command line" (type 1), 3.6.9 "Boot loader name" (type 2)
abbrev pub text_body : List ℕ → List ℕ
text_body text = text ++ 0 ∷ []

-- 3.6.6 "Modules" (type 3): mod_start, mod_end, string
abbrev pub module_body : ModuleInfo → List ℕ
module_body m = u32_bytes m.mod_start ++ (u32_bytes m.mod_end ++ text_body m.line)

abbrev pub module_tag : ModuleInfo → List ℕ
module_tag m = tag TAG_MODULE (module_body m)

-- 3.6.3 "Basic memory information" (type 4): mem_lower, mem_upper
abbrev pub memory_body : ℕ → ℕ → List ℕ
memory_body mem_lower mem_upper = u32_bytes mem_lower ++ u32_bytes mem_upper

-- an entry of the memory map, 3.6.8: base_addr, length, type, reserved
abbrev pub run_bytes : Region → List ℕ
run_bytes run =
    u64_bytes run.base
    ++ (u64_bytes run.length ++ (u32_bytes (kind_number run.kind) ++ u32_bytes 0))

-- 3.6.8 "Memory map" (type 6): entry_size, entry_version, entries
abbrev pub map_body : List Region → List ℕ
map_body runs = u32_bytes map_entry_size ++ (u32_bytes 0 ++ flat_map run_bytes runs)

-- framebuffer_red_field_position, framebuffer_red_mask_size, and so for green and blue
abbrev pub color_bytes : ColorField → List ℕ
color_bytes color = color.position ∷ color.size ∷ []

-- 3.6, section "Framebuffer info" (type 8): framebuffer_addr, _pitch, _width, _height, _bpp, _type,
-- reserved (16 bits, as in the standard's multiboot2.h), the three colours
abbrev pub screen_body : Screen → List ℕ
screen_body screen =
    u64_bytes screen.base
    ++ (u32_bytes screen.pitch
    ++ (u32_bytes screen.width
    ++ (u32_bytes screen.height
    ++ (screen.depth ∷ DIRECT_COLOR ∷ 0 ∷ 0 ∷ []
    ++ (color_bytes screen.red ++ (color_bytes screen.green ++ color_bytes screen.blue))))))

-- 3.6, sections "EFI 32-bit system table pointer" (type 11) and "EFI 64-bit system table pointer"
-- (type 12): pointer
abbrev pub pointer_type : EfiBits → ℕ
pointer_type Efi32 = TAG_EFI32
pointer_type Efi64 = TAG_EFI64

abbrev pub pointer_body : EfiBits → ℕ → List ℕ
pointer_body Efi32 a = u32_bytes a
pointer_body Efi64 a = u64_bytes a

abbrev pub pointer_tag : Option EfiTables → List ℕ
pointer_tag None = []
pointer_tag (Some efi) = tag (pointer_type efi.bits) (pointer_body efi.bits efi.system_table)

-- 3.6, section "SMBIOS tables" (type 13): major, minor, reserved (6 bytes), the tables
abbrev pub smbios_body : SmbiosFacts → List ℕ
smbios_body smbios =
    smbios.major ∷ smbios.minor ∷ 0 ∷ 0 ∷ 0 ∷ 0 ∷ 0 ∷ 0 ∷ [] ++ smbios.tables

-- 3.6, section "EFI memory map" (type 17): descriptor size, descriptor version, the map
abbrev pub efi_map_body : EfiTables → List ℕ
efi_map_body efi =
    u32_bytes efi.descriptor_size ++ (u32_bytes efi.descriptor_version ++ efi.map)
