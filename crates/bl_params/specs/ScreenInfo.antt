-- The screen in boot parameters: a `struct screen_info` at 0x000 (Linux/x86 Boot Protocol, "Zero
-- Page"; linux/screen_info.h).
use Rattle.std.specs.Prelude.{ℕ, ◌+◌, ◌*◌, ◌^◌, Bool, ◌&&◌, ◌||◌, not, ◌==◌, nat_lt, nat_le}
use Rattle.std.specs.Prelude.{if◌then◌else◌, List, [], ◌∷◌, slice_index, Option, Some, None}
use Rattle.bl_mem.specs.LittleEndian.{u16_at, u32_at}
use Rattle.bl_map.specs.declared.firmware.screen.Screen.{Screen}
use Rattle.bl_map.specs.FirmwareLimits.{is_told_u16, is_depth, fits_depth, has_pitch}
use Rattle.bl_map.specs.FirmwareLimits.{is_screen_placed}
use Rattle.bl_params.specs.FieldBytes.{number_bytes, bytes_of_fields, low_half, high_half}
use Rattle.bl_params.specs.FieldBytes.{is_nonzero_at}

-- VIDEO_TYPE_EFI: a frame buffer with an address, and no BIOS
abbrev pub video_type_efi : ℕ
video_type_efi = 0x70

-- VIDEO_CAPABILITY_SKIP_QUIRKS always, VIDEO_CAPABILITY_64BIT_BASE where the base has a high half
abbrev pub capabilities : ℕ → ℕ
capabilities ext_lfb_base = if ext_lfb_base == 0 then 1 else 3

-- the fields that tell a screen, each at its offset
abbrev pub screen_fields : Option Screen → List (ℕ × List ℕ)
screen_fields None = []
screen_fields (Some screen) =
    (0x0F, video_type_efi ∷ [])  -- orig_video_isVGA
    ∷ (0x12, number_bytes 2 screen.width)  -- lfb_width
    ∷ (0x14, number_bytes 2 screen.height)  -- lfb_height
    ∷ (0x16, number_bytes 2 screen.depth)  -- lfb_depth
    ∷ (0x18, number_bytes 4 (low_half screen.base))  -- lfb_base
    ∷ (0x1C, number_bytes 4 (screen.pitch * screen.height))  -- lfb_size, in bytes
    ∷ (0x24, number_bytes 2 screen.pitch)  -- lfb_linelength
    ∷ (0x26, screen.red.size ∷ [])  -- red_size
    ∷ (0x27, screen.red.position ∷ [])  -- red_pos
    ∷ (0x28, screen.green.size ∷ [])  -- green_size
    ∷ (0x29, screen.green.position ∷ [])  -- green_pos
    ∷ (0x2A, screen.blue.size ∷ [])  -- blue_size
    ∷ (0x2B, screen.blue.position ∷ [])  -- blue_pos
    ∷ (0x32, number_bytes 2 1)  -- pages
    ∷ (0x36, number_bytes 4 (capabilities (high_half screen.base)))  -- capabilities
    ∷ (0x3A, number_bytes 4 (high_half screen.base))  -- ext_lfb_base
    ∷ []

-- all of them, with 0 where there is no field: without a screen nothing but 0
unfoldable pub screen_info : Option Screen → List ℕ
screen_info screen = bytes_of_fields 0x40 (screen_fields screen)

-- the screen that the fields tell
unfoldable pub screen_in : List ℕ → Screen
screen_in bytes = record {
  base = u32_at bytes 0x18 + 2 ^ 32 * u32_at bytes 0x3A;
  pitch = u16_at bytes 0x24;
  width = u16_at bytes 0x12;
  height = u16_at bytes 0x14;
  depth = u16_at bytes 0x16;
  red = record { position = slice_index bytes 0x27; size = slice_index bytes 0x26 };
  green = record { position = slice_index bytes 0x29; size = slice_index bytes 0x28 };
  blue = record { position = slice_index bytes 0x2B; size = slice_index bytes 0x2A };
}

-- none where orig_video_isVGA tells none
unfoldable pub screen_of : List ℕ → Option Screen
screen_of bytes =
    if slice_index bytes 0x0F == video_type_efi then Some (screen_in bytes) else None

-- a byte of the fields that are not told
abbrev pub is_untold_in_screen : ℕ → Bool
is_untold_in_screen k =
    nat_lt k 0x0F  -- orig_x to orig_video_lines
    || (nat_le 0x10 k && nat_lt k 0x12)  -- orig_video_points
    || (nat_le 0x20 k && nat_lt k 0x24)  -- cl_magic, cl_offset
    || (nat_le 0x2C k && nat_lt k 0x32)  -- rsvd_size, rsvd_pos, vesapm_seg, vesapm_off
    || (nat_le 0x34 k && nat_lt k 0x36)  -- vesa_attributes
    || nat_le 0x3E k  -- _reserved

-- whether what stands at an offset breaks the limits of this screen, which the fields tell
unfoldable pub breaks_screen : Screen → List ℕ → ℕ → Bool
breaks_screen screen bytes k =
    (k == 0x12 && not (is_told_u16 screen.width))  -- lfb_width
    || (k == 0x14 && not (is_told_u16 screen.height))  -- lfb_height
    || (k == 0x16 && not (is_depth screen.depth))  -- lfb_depth
    || (k == 0x1C && not (u32_at bytes 0x1C == screen.pitch * screen.height))  -- lfb_size
    || (k == 0x24 && not (is_told_u16 screen.pitch && has_pitch screen))  -- lfb_linelength
    || (k == 0x27 && not (fits_depth screen.depth screen.red))  -- red_pos
    || (k == 0x29 && not (fits_depth screen.depth screen.green))  -- green_pos
    || (k == 0x2B && not (fits_depth screen.depth screen.blue))  -- blue_pos
    || (k == 0x32 && not (u16_at bytes 0x32 == 1))  -- pages
    || (k == 0x36 && not (u32_at bytes 0x36 == capabilities (u32_at bytes 0x3A)))  -- capabilities
    || (k == 0x3A && not (is_screen_placed screen))  -- ext_lfb_base
    || (is_untold_in_screen k && is_nonzero_at bytes k)

-- the same for the struct's bytes, whether a screen is told or none
unfoldable pub breaks_screen_info : List ℕ → ℕ → Bool
breaks_screen_info bytes k =
    if slice_index bytes 0x0F == video_type_efi then breaks_screen (screen_in bytes) bytes k else
    is_nonzero_at bytes k
