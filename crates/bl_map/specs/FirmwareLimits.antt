-- What firmware may tell: the limits of a screen, of UEFI and of SMBIOS, and which of them is
-- broken first. Own; 0 is "not told" in boot parameters (Linux/x86 Boot Protocol, "Zero Page"), so
-- that what is told is not 0.
use Rattle.std.specs.Prelude.{ℕ, ◌+◌, ◌*◌, ◌/◌, ◌%◌, ◌^◌, Bool, ◌&&◌, ◌||◌, not, ◌==◌, nat_le}
use Rattle.std.specs.Prelude.{nat_lt, if◌then◌else◌, Option, Some, None}
use Rattle.bl_map.specs.Limits.{max_region_end}
use Rattle.bl_map.specs.declared.fault.MapFault.{MapFault}
use Rattle.bl_map.specs.declared.fault.MapFault.TheVariants as fault
use Rattle.bl_map.specs.declared.firmware.efi.EfiBits.{EfiBits}
use Rattle.bl_map.specs.declared.firmware.efi.EfiBits.TheVariants.{Efi32, Efi64}
use Rattle.bl_map.specs.declared.firmware.efi.EfiInfo.{EfiInfo}
use Rattle.bl_map.specs.declared.firmware.screen.ColorField.{ColorField}
use Rattle.bl_map.specs.declared.firmware.screen.Screen.{Screen}

-- a number that is told in 16 bits
abbrev pub is_told_u16 : ℕ → Bool
is_told_u16 n = nat_le 1 n && nat_le n 0xFFFF

-- "lfb_width", "lfb_height" and "lfb_linelength" of screen_info have 16 bits
abbrev pub has_screen_size : Screen → Bool
has_screen_size screen =
    is_told_u16 screen.width && is_told_u16 screen.height && is_told_u16 screen.pitch

abbrev pub is_depth : ℕ → Bool
is_depth depth = (depth == 15) || (depth == 16) || (depth == 24) || (depth == 32)

-- a colour's bits lie in the pixel
abbrev pub fits_depth : ℕ → ColorField → Bool
fits_depth depth color = nat_le (color.position + color.size) depth

abbrev pub has_colors : Screen → Bool
has_colors screen =
    fits_depth screen.depth screen.red && fits_depth screen.depth screen.green
    && fits_depth screen.depth screen.blue

-- how many bytes a pixel of so many bits takes
abbrev pub pixel_bytes : ℕ → ℕ
pixel_bytes depth = (depth + 7) / 8

-- a line's pixels fit into its bytes
abbrev pub has_pitch : Screen → Bool
has_pitch screen = nat_le (screen.width * pixel_bytes screen.depth) screen.pitch

-- where the screen's memory ends
abbrev pub screen_end : Screen → ℕ
screen_end screen = screen.base + screen.pitch * screen.height

abbrev pub is_screen_placed : Screen → Bool
is_screen_placed screen = nat_le 1 screen.base && nat_le (screen_end screen) max_region_end

-- the first limit that a screen breaks
unfoldable pub screen_fault : Screen → Option MapFault
screen_fault screen =
    if not (has_screen_size screen) then Some fault.BadScreenSize else
    if not (is_depth screen.depth) then Some fault.BadScreenDepth else
    if not (has_colors screen) then Some fault.BadScreenColor else
    if not (has_pitch screen) then Some fault.BadScreenPitch else
    if not (is_screen_placed screen) then Some fault.BadScreenPlace else
    None

-- an ACPI root pointer has so many bytes (ACPI Specification 5.2.5.3, RSDP Structure)
abbrev pub rsdp_length : ℕ
rsdp_length = 36

-- the address of UEFI's system table has its bits: with 32 it lies below 4 GiB
abbrev pub is_system_table : EfiBits → ℕ → Bool
is_system_table Efi32 a = nat_le 1 a && nat_lt a (2 ^ 32)
is_system_table Efi64 a = nat_le 1 a && nat_lt a (2 ^ 64)

-- UEFI Specification 4.3: an EFI_SYSTEM_TABLE has so many bytes with 64 bits; with 32 it has fewer
abbrev pub system_table_length : ℕ
system_table_length = 120

-- a machine's system table ends where a region may end at most
abbrev pub is_low_table : ℕ → Bool
is_low_table a = nat_le (a + system_table_length) max_region_end

-- UEFI Specification 7.2: an EFI_MEMORY_DESCRIPTOR has 40 bytes, and version 1; later ones may have
-- more, so that the size is told
abbrev pub are_descriptors : ℕ → ℕ → Bool
are_descriptors size version = nat_le 40 size && (size % 8 == 0) && (version == 1)

-- a memory map of UEFI has at most so many bytes
abbrev pub max_efi_map : ℕ
max_efi_map = 0x10000

-- one descriptor at least, which has some bytes, and no part of one
abbrev pub is_efi_map_size : ℕ → ℕ → Bool
is_efi_map_size descriptor_size size =
    nat_le 1 descriptor_size && nat_le descriptor_size size && (size % descriptor_size == 0)
    && nat_le size max_efi_map

-- the map lies below 4 GiB, where a kernel that is entered with 64 bits can read it
abbrev pub is_efi_map_place : ℕ → ℕ → Bool
is_efi_map_place a size = nat_le 1 a && (a % 8 == 0) && nat_le (a + size) (2 ^ 32)

-- the first limit that UEFI's numbers break
unfoldable pub efi_fault : EfiInfo → Option MapFault
efi_fault efi =
    if not (is_system_table efi.bits efi.system_table) then Some fault.BadSystemTable else
    if not (are_descriptors efi.descriptor_size efi.descriptor_version) then
    Some fault.BadDescriptors else
    if not (is_efi_map_size efi.descriptor_size efi.map_size) then Some fault.BadEfiMapSize else
    if not (is_efi_map_place efi.map_address efi.map_size) then Some fault.BadEfiMapPlace else
    None

-- the first limit that they break in a machine
unfoldable pub machine_efi_fault : EfiInfo → Option MapFault
machine_efi_fault efi =
    if not (is_low_table efi.system_table) then Some fault.BadSystemTable else efi_fault efi

-- the tables of SMBIOS have at most so many bytes
abbrev pub max_smbios : ℕ
max_smbios = 0x10000

abbrev pub is_smbios_size : ℕ → Bool
is_smbios_size size = nat_le 1 size && nat_le size max_smbios

-- at most so many ranges are avoided
abbrev pub max_avoided : ℕ
max_avoided = 128
