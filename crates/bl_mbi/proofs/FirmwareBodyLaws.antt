-- A body of firmware's tags that is spelled is read again.
use Rattle.std.proofs.Common.{◌≡◌, ◌<◌, ◌^◌, ℕ, true, false, Some, None, length}
use Rattle.std.proofs.Common.{drop, arith, refl}
use Rattle.std.specs.Prelude.{nat_lt, slice_index}
use Rattle.std.proofs.lemmas.Bool.Decides.{nat_tests}
use Rattle.bl_map.specs.declared.firmware.efi.EfiBits.{EfiBits}
use Rattle.bl_map.specs.declared.firmware.efi.EfiBits.TheVariants.{Efi32, Efi64}
use Rattle.bl_map.specs.declared.firmware.screen.Screen.{Screen}
use Rattle.bl_map.specs.Firmware.{SmbiosFacts}
use Rattle.bl_map.specs.FirmwareLimits.{screen_fault, is_system_table}
use Rattle.bl_mem.specs.LittleEndian.{u32_bytes, u64_bytes}
use Rattle.bl_mem.proofs.LittleEndianLaws.{length-u32_bytes, length-u64_bytes}
use Rattle.bl_mbi.specs.InfoToWriteFacts.{EfiTables, IsToldEfi, IsToldSmbios}
use Rattle.bl_mbi.specs.Tags.{screen_body, pointer_body, smbios_body, efi_map_body}
use Rattle.bl_mbi.specs.ReadingSteps.{first_u32, first_u64}
use Rattle.bl_mbi.specs.FirmwareBodies.{framebuffer_of, pointer_of, smbios_of, efi_tables_of}
use Rattle.bl_mbi.proofs.FirmwareLimitLemmas.{screen_fits, low_system_table, version_small}
use Rattle.bl_mbi.proofs.FirmwareLimitLemmas.{size_small, system_table_small}
use Rattle.bl_mbi.proofs.Sizes.{length-screen_body, length-smbios_body, length-efi_map_body}
use Rattle.bl_mbi.proofs.WordLaws.{word_front, word_alone, long_front, long_alone, behind_word}
use Rattle.bl_mbi.proofs.WordLaws.{behind_long, behind_words}

-- the bytes of a screen after its four numbers
record HasPixels (screen : Screen) : Type 0 where
  depth : slice_index (screen_body screen) 20 ≡ screen.depth
  type_is : slice_index (screen_body screen) 21 ≡ 1
  reserved : slice_index (screen_body screen) 22 ≡ 0
  reserved_high : slice_index (screen_body screen) 23 ≡ 0
  red_position : slice_index (screen_body screen) 24 ≡ screen.red.position
  red_size : slice_index (screen_body screen) 25 ≡ screen.red.size
  green_position : slice_index (screen_body screen) 26 ≡ screen.green.position
  green_size : slice_index (screen_body screen) 27 ≡ screen.green.size
  blue_position : slice_index (screen_body screen) 28 ≡ screen.blue.position
  blue_size : slice_index (screen_body screen) 29 ≡ screen.blue.size

pixels_again : (screen : Screen) → HasPixels screen
unfolding u32_bytes u64_bytes
pixels_again screen = record {
  depth = refl;
  type_is = refl;
  reserved = refl;
  reserved_high = refl;
  red_position = refl;
  red_size = refl;
  green_position = refl;
  green_size = refl;
  blue_position = refl;
  blue_size = refl;
}

width_first : (screen : Screen) → screen.width < 2 ^ 32
    → first_u32 (drop 12 (screen_body screen)) ≡ screen.width
unfolding u32_bytes u64_bytes
width_first screen fits = word_front screen.width _ fits

height_first : (screen : Screen) → screen.height < 2 ^ 32
    → first_u32 (drop 16 (screen_body screen)) ≡ screen.height
unfolding u32_bytes u64_bytes
height_first screen fits = word_front screen.height _ fits

pub screen_again : (screen : Screen) → screen_fault screen ≡ None
    → framebuffer_of (screen_body screen) ≡ Some screen
unfolding framebuffer_of
screen_again screen sound =
    let fits = screen_fits screen sound in
    let p = pixels_again screen in
    let base : first_u64 (screen_body screen) ≡ screen.base =
    long_front screen.base _ fits.base in
    let pitch : first_u32 (drop 8 (screen_body screen)) ≡ screen.pitch =
    rw behind_long (word_front screen.pitch _ fits.pitch) in
    let width = width_first screen fits.width in
    let height = height_first screen fits.height in
    rw (
      length-screen_body screen,
      p.type_is,
      p.reserved,
      p.reserved_high,
      base,
      pitch,
      width,
      height,
      p.depth,
      p.red_position,
      p.red_size,
      p.green_position,
      p.green_size,
      p.blue_position,
      p.blue_size,
      sound,
    ) refl

pub pointer_again : (bits : EfiBits) (a : ℕ) → is_system_table bits a ≡ true
    → pointer_of bits (pointer_body bits a) ≡ Some (bits, a)
unfolding pointer_of
pointer_again Efi32 a is =
    rw (length-u32_bytes, word_alone a (low_system_table a is), is) refl
pointer_again Efi64 a is =
    rw (length-u64_bytes, long_alone a (system_table_small Efi64 a is), is) refl

pub smbios_again : (smbios : SmbiosFacts) → IsToldSmbios smbios
    → smbios_of (smbios_body smbios) ≡ Some smbios
unfolding smbios_of
smbios_again smbios is =
    let len = length-smbios_body smbios in
    let not_short : nat_lt (length (smbios_body smbios)) 8 ≡ false = grind (arith, nat_tests) in
    rw (not_short, is.size) refl

pub efi_again : (efi : EfiTables) → IsToldEfi efi
    → efi_tables_of (efi.bits, efi.system_table) (efi_map_body efi) ≡ Some efi
unfolding efi_tables_of
efi_again efi is =
    let body = efi_map_body efi in
    let len = length-efi_map_body efi in
    let not_short : nat_lt (length body) 8 ≡ false = grind (arith, nat_tests) in
    let size : first_u32 body ≡ efi.descriptor_size =
    word_front efi.descriptor_size _ (size_small efi.descriptor_size (length efi.map) is.size) in
    let version : first_u32 (drop 4 body) ≡ efi.descriptor_version =
    rw behind_word (
    word_front efi.descriptor_version _
    (version_small efi.descriptor_size efi.descriptor_version is.descriptors)
    ) in
    let map : drop 8 body ≡ efi.map =
    behind_words efi.descriptor_size efi.descriptor_version efi.map in
    rw (not_short, version, size, map, is.descriptors, is.size) refl
