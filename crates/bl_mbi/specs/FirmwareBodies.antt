-- What the body of each tag of firmware's tells, where it fits its type (Multiboot2 3.6 "Boot
-- information format").
use Rattle.std.specs.Prelude.{◌+◌, ℕ, not, if◌then◌else◌, ◌==◌, nat_lt, List, length, drop}
use Rattle.std.specs.Prelude.{slice_index, slice_range, Option, Some, None, is_some}
use Rattle.std.specs.List.{list_all}
use Rattle.bl_map.specs.declared.firmware.efi.EfiBits.{EfiBits}
use Rattle.bl_map.specs.declared.firmware.efi.EfiBits.TheVariants.{Efi32, Efi64}
use Rattle.bl_map.specs.declared.firmware.screen.ColorField.{ColorField}
use Rattle.bl_map.specs.declared.firmware.screen.Screen.{Screen}
use Rattle.bl_map.specs.Firmware.{SmbiosFacts}
use Rattle.bl_map.specs.FirmwareLimits.{screen_fault, is_system_table, are_descriptors}
use Rattle.bl_map.specs.FirmwareLimits.{is_efi_map_size, is_smbios_size}
use Rattle.bl_mbi.specs.declared.tag_types.TheConstants.{DIRECT_COLOR, FRAMEBUFFER_BODY}
use Rattle.bl_mbi.specs.InfoToWriteFacts.{EfiTables}
use Rattle.bl_mbi.specs.ReadingSteps.{first_u32, first_u64}

-- the position and the mask size of a colour
abbrev pub color_at : List ℕ → ℕ → ColorField
color_at body at = record {
  position = slice_index body at;
  size = slice_index body (at + 1);
}

-- 3.6, section "Framebuffer info": framebuffer_addr, _pitch, _width, _height, _bpp, and after
-- _type and reserved the colours
abbrev pub framebuffer_in : List ℕ → Screen
framebuffer_in body = record {
  base = first_u64 body;
  pitch = first_u32 (drop 8 body);
  width = first_u32 (drop 12 body);
  height = first_u32 (drop 16 body);
  depth = slice_index body 20;
  red = color_at body 24;
  green = color_at body 26;
  blue = color_at body 28;
}

unfoldable pub framebuffer_of : List ℕ → Option Screen
framebuffer_of body =
    if not (length body == FRAMEBUFFER_BODY) then None else
    if not (slice_index body 21 == DIRECT_COLOR) then None else
    if not (slice_index body 22 == 0) then None else
    if not (slice_index body 23 == 0) then None else
    if is_some (screen_fault (framebuffer_in body)) then None else
    Some (framebuffer_in body)

-- 3.6, sections "EFI 32-bit system table pointer" and "EFI 64-bit system table pointer": pointer
abbrev pub pointer_length : EfiBits → ℕ
pointer_length Efi32 = 4
pointer_length Efi64 = 8

abbrev pub first_pointer : EfiBits → List ℕ → ℕ
first_pointer Efi32 body = first_u32 body
first_pointer Efi64 body = first_u64 body

unfoldable pub pointer_of : EfiBits → List ℕ → Option (EfiBits × ℕ)
pointer_of bits body =
    if not (length body == pointer_length bits) then None else
    if not (is_system_table bits (first_pointer bits body)) then None else
    Some (bits, first_pointer bits body)

-- 3.6, section "SMBIOS tables": major, minor, reserved (6 bytes), the tables
unfoldable pub smbios_of : List ℕ → Option SmbiosFacts
smbios_of body =
    if nat_lt (length body) 8 then None else
    if not (list_all (λ b. b == 0) (slice_range body 2 8)) then None else
    if not (is_smbios_size (length (drop 8 body))) then None else
    Some record {
      major = slice_index body 0;
      minor = slice_index body 1;
      tables = drop 8 body;
    }

-- 3.6, section "EFI memory map": descriptor size, descriptor version, the map; with the system
-- table's address
unfoldable pub efi_tables_of : EfiBits × ℕ → List ℕ → Option EfiTables
efi_tables_of pointer body =
    if nat_lt (length body) 8 then None else
    if not (are_descriptors (first_u32 body) (first_u32 (drop 4 body))) then None else
    if not (is_efi_map_size (first_u32 body) (length (drop 8 body))) then None else
    Some record {
      bits = pointer.0;
      system_table = pointer.1;
      descriptor_size = first_u32 body;
      descriptor_version = first_u32 (drop 4 body);
      map = drop 8 body;
    }

-- 3.6, sections "ACPI old RSDP" and "ACPI new RSDP": the whole body is the copy
abbrev pub copy_of : List ℕ → Option (List ℕ)
copy_of body = Some body
