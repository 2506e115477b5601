-- The form of boot parameters (Linux/x86 Boot Protocol, "Details of Header Fields" and "Zero Page";
-- own: what a loader of this kind writes), and the offsets at which bytes break it.
use Rattle.std.specs.Prelude.{ℕ, ◌+◌, ◌-◌, ◌*◌, ◌%◌, Bool, false, ◌&&◌, ◌||◌, not}
use Rattle.std.specs.Prelude.{if◌then◌else◌, ◌==◌, nat_lt, nat_le, List, slice_index}
use Rattle.bl_mem.specs.LittleEndian.{u16_at, u32_at, u64_at}
use Rattle.bl_map.specs.Limits.{max_region_end}
use Rattle.bl_bzimage.specs.Setup.{header_end}
use Rattle.bl_params.specs.ParamsToWriteFacts.{max_e820_entries}
use Rattle.bl_params.specs.FieldBytes.{is_nonzero_at}
use Rattle.bl_params.specs.ScreenInfo.{breaks_screen_info}
use Rattle.bl_params.specs.EfiInfo.{breaks_efi_info, breaks_secure_boot}
use Rattle.bl_params.specs.SizesAndOffsets.{e820_entries_at, e820_table_at, e820_entry_size}
use Rattle.bl_params.specs.SizesAndOffsets.{e820_size_at}
use Rattle.bl_params.specs.SizesAndOffsets.{e820_type_at, header_at}

-- "e820_entries"
abbrev pub e820_entry_count : List ℕ → ℕ
e820_entry_count bytes = slice_index bytes e820_entries_at

-- an entry of "e820_table"
abbrev pub e820_entry_offset : ℕ → ℕ
e820_entry_offset i = e820_table_at + e820_entry_size * i

-- the fields in front of "e820_entries": "screen_info", "acpi_rsdp_addr", which may be any address,
-- "efi_info"
unfoldable pub breaks_front : List ℕ → ℕ → Bool
breaks_front bytes k =
    if nat_lt k 0x40 then breaks_screen_info bytes k else
    if nat_le 0x70 k && nat_lt k 0x78 then false else
    if nat_le 0x1C0 k && nat_lt k 0x1E0 then breaks_efi_info bytes k else
    is_nonzero_at bytes k

-- "secure_boot", between "e820_entries" and the header
abbrev pub breaks_gap : List ℕ → ℕ → Bool
breaks_gap bytes k = if k == 0x1EC then breaks_secure_boot bytes else is_nonzero_at bytes k

-- the fields of the header, each by the offset at which it counts
abbrev pub breaks_header : List ℕ → ℕ → Bool
breaks_header bytes k =
    (k == 0x1FA && not (u16_at bytes 0x1FA == 0xFFFF))  -- vid_mode
    || (k == 0x1FE && not (u16_at bytes 0x1FE == 0xAA55))  -- boot_flag
    || (k == 0x201 && nat_lt (header_end bytes) 0x264)  -- jump
    || (k == 0x202 && not (u32_at bytes 0x202 == 0x53726448))  -- header: `HdrS`
    || (k == 0x206 && nat_lt (u16_at bytes 0x206) 0x020A)  -- version
    || (k == 0x210 && not (slice_index bytes 0x210 == 0xFF))  -- type_of_loader
    || (k == 0x250 && not (u64_at bytes 0x250 == 0))  -- setup_data

-- the fields of an entry of "e820_table", by their place in it: addr with size at 0, and type
abbrev pub breaks_e820_entry : List ℕ → ℕ → ℕ → Bool
breaks_e820_entry bytes place k =
    (place == 0 && nat_lt max_region_end (u64_at bytes k + u64_at bytes (k + e820_size_at)))
    || (place == e820_type_at && not (nat_le 1 (u32_at bytes k) && nat_le (u32_at bytes k) 5))

-- whether what stands at an offset breaks the form
unfoldable pub breaks_at : List ℕ → ℕ → Bool
breaks_at bytes k =
    if nat_lt k e820_entries_at then breaks_front bytes k else
    if k == e820_entries_at then nat_lt max_e820_entries (e820_entry_count bytes) else
    if nat_lt k header_at then breaks_gap bytes k else
    if nat_lt k (header_end bytes) then breaks_header bytes k else
    if nat_lt k e820_table_at then is_nonzero_at bytes k else
    if nat_lt k (e820_entry_offset (e820_entry_count bytes)) then
    breaks_e820_entry bytes ((k - e820_table_at) % e820_entry_size) k else
    is_nonzero_at bytes k
