-- What the limits of a screen and of UEFI say, and what firmware tells where it tells nothing.
use Rattle.std.proofs.Common.{◌≡◌, ◌≤◌, ◌^◌, ℕ, Bool, true, false, not, List}
use Rattle.std.proofs.Common.{if◌then◌else◌, refl, arith}
use Rattle.std.specs.Prelude.{Option, Some, None}
use Rattle.std.proofs.lemmas.Bool.Decides.{nat_tests}
use Rattle.std.proofs.lemmas.List.Elements.{All-nil}
use Rattle.std.specs.declared.ops.Range.{Range}
use Rattle.bl_map.specs.declared.fault.MapFault.{MapFault}
use Rattle.bl_map.specs.declared.firmware.efi.EfiInfo.{EfiInfo}
use Rattle.bl_map.specs.declared.firmware.screen.Screen.{Screen}
use Rattle.bl_map.specs.declared.region.Region.{Region}
use Rattle.bl_map.specs.Firmware.{no_firmware, FitsFirmwareFields}
use Rattle.bl_map.specs.FirmwareLimits.{has_screen_size, is_depth, has_colors, has_pitch}
use Rattle.bl_map.specs.FirmwareLimits.{is_screen_placed, screen_end, screen_fault, is_system_table}
use Rattle.bl_map.specs.FirmwareLimits.{are_descriptors, is_efi_map_size, is_efi_map_place}
use Rattle.bl_map.specs.FirmwareLimits.{efi_fault, is_low_table, machine_efi_fault}
use Rattle.bl_map.specs.MachineFacts.{IsFirmware, IsAvoidable, MissesPool}

-- where no fault stands, the first limit is kept, and no fault of the rest stands
kept : (b : Bool) (fault : MapFault) (rest : Option MapFault)
    → (if not b then Some fault else rest) ≡ None → (b ≡ true) × (rest ≡ None)
kept true fault rest none = (refl, none)
kept false fault rest none = absurd cc

-- a screen without a fault keeps each limit
pub record IsSoundScreen (screen : Screen) : Type 0 where
  pub size : has_screen_size screen ≡ true
  pub depth : is_depth screen.depth ≡ true
  pub colors : has_colors screen ≡ true
  pub pitch : has_pitch screen ≡ true
  pub place : is_screen_placed screen ≡ true

pub sound_screen : (screen : Screen) → screen_fault screen ≡ None → IsSoundScreen screen
unfolding screen_fault
sound_screen screen none =
    let size = kept (has_screen_size screen) _ _ none in
    let depth = kept (is_depth screen.depth) _ _ size.1 in
    let colors = kept (has_colors screen) _ _ depth.1 in
    let pitch = kept (has_pitch screen) _ _ colors.1 in
    let place = kept (is_screen_placed screen) _ _ pitch.1 in
    record {
      size = size.0;
      depth = depth.0;
      colors = colors.0;
      pitch = pitch.0;
      place = place.0;
    }

placed_low : (screen : Screen) → is_screen_placed screen ≡ true → screen_end screen ≤ 2 ^ 52
placed_low screen h = grind (arith, nat_tests)

pub screen_is_low : (screen : Screen) → screen_fault screen ≡ None → screen_end screen ≤ 2 ^ 52
screen_is_low screen none = placed_low screen (sound_screen screen none).place

-- numbers of UEFI without a fault keep each limit
pub record IsSoundEfi (efi : EfiInfo) : Type 0 where
  pub system_table : is_system_table efi.bits efi.system_table ≡ true
  pub descriptors : are_descriptors efi.descriptor_size efi.descriptor_version ≡ true
  pub size : is_efi_map_size efi.descriptor_size efi.map_size ≡ true
  pub place : is_efi_map_place efi.map_address efi.map_size ≡ true

pub sound_efi : (efi : EfiInfo) → efi_fault efi ≡ None → IsSoundEfi efi
unfolding efi_fault
sound_efi efi none =
    let system_table = kept (is_system_table efi.bits efi.system_table) _ _ none in
    let descriptors =
    kept (are_descriptors efi.descriptor_size efi.descriptor_version) _ _ system_table.1 in
    let size = kept (is_efi_map_size efi.descriptor_size efi.map_size) _ _ descriptors.1 in
    let place = kept (is_efi_map_place efi.map_address efi.map_size) _ _ size.1 in
    record {
      system_table = system_table.0;
      descriptors = descriptors.0;
      size = size.0;
      place = place.0;
    }

pub machine_efi_is_sound : (efi : EfiInfo) → machine_efi_fault efi ≡ None → efi_fault efi ≡ None
unfolding machine_efi_fault
machine_efi_is_sound efi none = (kept (is_low_table efi.system_table) _ _ none).1

-- where firmware tells nothing, each limit is kept
pub no_firmware_is : (regions : List Region) (pool : Range ℕ)
    → IsFirmware regions pool no_firmware
no_firmware_is regions pool =
    record {
      screen = tt;
      rsdp = tt;
      efi = tt;
      smbios = tt;
      avoided = record {
        few = omega arith;
        avoidable = All-nil IsAvoidable;
        apart = All-nil (MissesPool pool);
      };
    }

pub no_firmware_fits : FitsFirmwareFields no_firmware
no_firmware_fits = record { efi = tt; smbios = tt }
