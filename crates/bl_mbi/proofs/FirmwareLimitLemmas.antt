-- What the limits of firmware's facts say of their numbers.
use Rattle.std.proofs.Common.{◌≡◌, ◌+◌, ◌*◌, ◌%◌, ◌<◌, ◌≤◌, ◌^◌, ℕ, true, None, arith}
use Rattle.std.specs.Prelude.{nat_eq, nat_lt, nat_le, ◌&&◌}
use Rattle.std.proofs.lemmas.Bool.{and_parts}
use Rattle.std.proofs.lemmas.Bool.Decides.{nat_tests}
use Rattle.bl_map.specs.declared.firmware.efi.EfiBits.{EfiBits}
use Rattle.bl_map.specs.declared.firmware.efi.EfiBits.TheVariants.{Efi32, Efi64}
use Rattle.bl_map.specs.declared.firmware.screen.Screen.{Screen}
use Rattle.bl_map.specs.FirmwareLimits.{is_told_u16, screen_fault, is_system_table}
use Rattle.bl_map.specs.FirmwareLimits.{are_descriptors, is_efi_map_size}
use Rattle.bl_map.proofs.FirmwareLemmas.{sound_screen, screen_is_low}

told_small : (n : ℕ) → is_told_u16 n ≡ true → n < 2 ^ 32
told_small n is =
    let parts = and_parts (nat_le 1 n) (nat_le n 0xFFFF) is in
    let low : n ≤ 0xFFFF = grind (arith, nat_tests, parts.1) in
    omega arith

-- each number of a screen fits its field
pub record FitsScreenFields (screen : Screen) : Type 0 where
  pub base : screen.base < 2 ^ 64
  pub pitch : screen.pitch < 2 ^ 32
  pub width : screen.width < 2 ^ 32
  pub height : screen.height < 2 ^ 32

pub screen_fits : (screen : Screen) → screen_fault screen ≡ None → FitsScreenFields screen
screen_fits screen none =
    let sound = sound_screen screen none in
    let sizes =
    and_parts (is_told_u16 screen.width && is_told_u16 screen.height) (is_told_u16 screen.pitch)
    sound.size in
    let both = and_parts (is_told_u16 screen.width) (is_told_u16 screen.height) sizes.0 in
    let low : screen.base + screen.pitch * screen.height ≤ 2 ^ 52 = screen_is_low screen none in
    record {
      base = omega arith;
      pitch = told_small screen.pitch sizes.1;
      width = told_small screen.width both.0;
      height = told_small screen.height both.1;
    }

pub low_system_table : (a : ℕ) → is_system_table Efi32 a ≡ true → a < 2 ^ 32
low_system_table a is =
    let parts = and_parts (nat_le 1 a) (nat_lt a (2 ^ 32)) is in grind (arith, nat_tests, parts.1)

pub system_table_small : (bits : EfiBits) (a : ℕ) → is_system_table bits a ≡ true → a < 2 ^ 64
system_table_small Efi32 a is = let low = low_system_table a is in omega arith
system_table_small Efi64 a is =
    let parts = and_parts (nat_le 1 a) (nat_lt a (2 ^ 64)) is in grind (arith, nat_tests, parts.1)

-- a version of descriptors is 1
pub version_small : (size version : ℕ) → are_descriptors size version ≡ true → version < 2 ^ 32
version_small size version is =
    let parts = and_parts (nat_le 40 size && nat_eq (size % 8) 0) (nat_eq version 1) is in
    let one : version ≡ 1 = grind (arith, nat_tests, parts.1) in
    omega arith

-- a descriptor fits the map, and the map is small
pub size_small : (size len : ℕ) → is_efi_map_size size len ≡ true → size < 2 ^ 32
size_small size len is =
    let whole =
    and_parts (nat_le 1 size && nat_le size len && nat_eq (len % size) 0) (nat_le len 0x10000) is in
    let most = and_parts (nat_le 1 size && nat_le size len) (nat_eq (len % size) 0) whole.0 in
    let fits = and_parts (nat_le 1 size) (nat_le size len) most.0 in
    let one : size ≤ len = grind (arith, nat_tests, fits.1) in
    let all : len ≤ 0x10000 = grind (arith, nat_tests, whole.1) in
    omega arith
