-- The limits of a screen and of UEFI, one by one.
use Rattle.std.proofs.Common.{◌≡◌, ◌≤◌, ◌<◌, ◌+◌, ◌*◌, ◌^◌, ℕ, Bool, true, false, not}
use Rattle.std.proofs.Common.{◌&&◌, nat_lt, nat_le, Option, Some, None, arith, refl}
use Rattle.std.specs.Prelude.{nat_eq, if◌then◌else◌}
use Rattle.std.proofs.lemmas.Bool.{and_parts}
use Rattle.std.proofs.lemmas.Bool.Decides.{nat_tests}
use Rattle.std.proofs.lemmas.Nat.{mul-lt}
use Rattle.bl_map.specs.declared.fault.MapFault.{MapFault}
use Rattle.bl_map.specs.declared.firmware.efi.EfiInfo.{EfiInfo}
use Rattle.bl_map.specs.declared.firmware.screen.Screen.{Screen}
use Rattle.bl_map.specs.FirmwareLimits.{screen_fault, efi_fault, is_told_u16, is_depth, fits_depth}
use Rattle.bl_map.specs.FirmwareLimits.{has_screen_size, has_colors, has_pitch, is_screen_placed}
use Rattle.bl_map.specs.FirmwareLimits.{is_system_table, are_descriptors, is_efi_map_size}
use Rattle.bl_map.specs.FirmwareLimits.{is_efi_map_place}

pub holds : (b : Bool) → not b ≡ false → b ≡ true
holds true e = refl
holds false e = cc

pub le_from : (m n : ℕ) → nat_le m n ≡ true → m ≤ n
le_from m n test = grind (arith, nat_tests)

pub le_to : (m n : ℕ) → m ≤ n → nat_le m n ≡ true
le_to m n less = grind (arith, nat_tests)

pub lt_from : (m n : ℕ) → nat_lt m n ≡ true → m < n
lt_from m n test = grind (arith, nat_tests)

pub eq_from : (m n : ℕ) → nat_eq m n ≡ true → m ≡ n
eq_from m n test = grind (arith, nat_tests)

pub eq_to : (m n : ℕ) → m ≡ n → nat_eq m n ≡ true
eq_to m n same = grind (arith, nat_tests)

pub eq_no_zero : (n : ℕ) → 1 ≤ n → nat_eq n 0 ≡ false
eq_no_zero n some = grind (arith, nat_tests)

-- a limit that is kept, and those after it
passed : (kept : Bool) (fault : MapFault) (rest : Option MapFault)
    → (if not kept then Some fault else rest) ≡ None → (kept ≡ true) × (rest ≡ None)
passed true fault rest e = (refl, e)
passed false fault rest e = cc

pass : (kept : Bool) (fault : MapFault) (rest : Option MapFault) → kept ≡ true → rest ≡ None
    → (if not kept then Some fault else rest) ≡ None
pass kept fault rest e f = rw e f

-- ---- a screen

pub record IsSoundScreen (screen : Screen) : Type 0 where
  pub width : is_told_u16 screen.width ≡ true
  pub height : is_told_u16 screen.height ≡ true
  pub pitch : is_told_u16 screen.pitch ≡ true
  pub depth : is_depth screen.depth ≡ true
  pub red : fits_depth screen.depth screen.red ≡ true
  pub green : fits_depth screen.depth screen.green ≡ true
  pub blue : fits_depth screen.depth screen.blue ≡ true
  pub line : has_pitch screen ≡ true
  pub placed : is_screen_placed screen ≡ true

pub screen_sound : (screen : Screen) → screen_fault screen ≡ None → IsSoundScreen screen
unfolding screen_fault
screen_sound screen none =
    let size = passed (has_screen_size screen) _ _ none in
    let depth = passed (is_depth screen.depth) _ _ size.1 in
    let colors = passed (has_colors screen) _ _ depth.1 in
    let line = passed (has_pitch screen) _ _ colors.1 in
    let placed = passed (is_screen_placed screen) _ _ line.1 in
    let sizes =
    and_parts (is_told_u16 screen.width && is_told_u16 screen.height) (is_told_u16 screen.pitch)
    size.0 in
    let first = and_parts (is_told_u16 screen.width) (is_told_u16 screen.height) sizes.0 in
    let hues =
    and_parts (fits_depth screen.depth screen.red && fits_depth screen.depth screen.green)
    (fits_depth screen.depth screen.blue) colors.0 in
    let warm =
    and_parts (fits_depth screen.depth screen.red) (fits_depth screen.depth screen.green) hues.0 in
    record {
      width = first.0;
      height = first.1;
      pitch = sizes.1;
      depth = depth.0;
      red = warm.0;
      green = warm.1;
      blue = hues.1;
      line = line.0;
      placed = placed.0;
    }

pub no_screen_fault : (screen : Screen) → IsSoundScreen screen → screen_fault screen ≡ None
unfolding screen_fault
no_screen_fault screen is =
    pass (has_screen_size screen) _ _ (rw (is.width, is.height, is.pitch) refl)
    (pass (is_depth screen.depth) _ _ is.depth
    (pass (has_colors screen) _ _ (rw (is.red, is.green, is.blue) refl)
    (pass (has_pitch screen) _ _ is.line (pass (is_screen_placed screen) _ _ is.placed refl))))

pub told_small : (n : ℕ) → is_told_u16 n ≡ true → n < 2 ^ 16
told_small n told =
    let both = and_parts (nat_le 1 n) (nat_le n 0xFFFF) told in
    let most = le_from n 0xFFFF both.1 in omega arith

pub depth_small : (n : ℕ) → is_depth n ≡ true → n ≤ 32
depth_small n test = grind (arith, nat_tests)

pub area_small : (screen : Screen) → IsSoundScreen screen → screen.pitch * screen.height < 2 ^ 32
area_small screen is =
    mul-lt screen.pitch screen.height (2 ^ 16) (2 ^ 16) (told_small screen.pitch is.pitch)
    (told_small screen.height is.height)

base_below : (base size : ℕ) → base + size ≤ 2 ^ 52 → base ≤ 2 ^ 52
base_below base size end = omega arith

pub base_small : (screen : Screen) → IsSoundScreen screen → screen.base ≤ 2 ^ 52
base_small screen is =
    let both =
    and_parts (nat_le 1 screen.base)
    (nat_le (screen.base + screen.pitch * screen.height) (2 ^ 52)) is.placed in
    base_below screen.base (screen.pitch * screen.height)
    (le_from (screen.base + screen.pitch * screen.height) (2 ^ 52) both.1)

-- ---- UEFI

pub record IsSoundEfi (efi : EfiInfo) : Type 0 where
  pub table : is_system_table efi.bits efi.system_table ≡ true
  pub descriptors : are_descriptors efi.descriptor_size efi.descriptor_version ≡ true
  pub size : is_efi_map_size efi.descriptor_size efi.map_size ≡ true
  pub place : is_efi_map_place efi.map_address efi.map_size ≡ true

pub efi_sound : (efi : EfiInfo) → efi_fault efi ≡ None → IsSoundEfi efi
unfolding efi_fault
efi_sound efi none =
    let table = passed (is_system_table efi.bits efi.system_table) _ _ none in
    let each = passed (are_descriptors efi.descriptor_size efi.descriptor_version) _ _ table.1 in
    let size = passed (is_efi_map_size efi.descriptor_size efi.map_size) _ _ each.1 in
    let place = passed (is_efi_map_place efi.map_address efi.map_size) _ _ size.1 in
    record { table = table.0; descriptors = each.0; size = size.0; place = place.0 }

pub no_efi_fault : (efi : EfiInfo) → IsSoundEfi efi → efi_fault efi ≡ None
unfolding efi_fault
no_efi_fault efi is =
    pass (is_system_table efi.bits efi.system_table) _ _ is.table
    (pass (are_descriptors efi.descriptor_size efi.descriptor_version) _ _ is.descriptors
    (pass (is_efi_map_size efi.descriptor_size efi.map_size) _ _ is.size
    (pass (is_efi_map_place efi.map_address efi.map_size) _ _ is.place refl)))
