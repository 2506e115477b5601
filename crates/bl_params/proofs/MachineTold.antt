-- What firmware tells of a machine is within the limits of boot parameters.
use Rattle.std.proofs.Common.{◌≡◌, ◌≤◌, ◌<◌, ◌^◌, ℕ, List, Option, Some, None, option_map, arith}
use Rattle.std.specs.Prelude.{IfSome}
use Rattle.bl_map.specs.declared.firmware.screen.Screen.{Screen}
use Rattle.bl_map.specs.declared.region.Region.{Region}
use Rattle.bl_map.specs.Firmware.{EfiFacts, efi_info}
use Rattle.bl_map.specs.FirmwareLimits.{screen_fault, efi_fault}
use Rattle.bl_map.specs.MachineFacts.{MachineFacts, IsWellFormedMachine, IsScreen, IsRsdp, IsEfi}
use Rattle.bl_map.proofs.FirmwareLemmas.{machine_efi_is_sound}
use Rattle.bl_params.specs.ParamsToWriteFacts.{IsToldFirmware}

screen_sound : (screen : Option Screen) (regions : List Region)
    → IfSome screen (IsScreen regions) → IfSome screen (λ s. screen_fault s ≡ None)
screen_sound None regions is = tt
screen_sound (Some s) regions is = is.sound

rsdp_told : (rsdp : Option ℕ) (regions : List Region)
    → IfSome rsdp (IsRsdp regions) → IfSome rsdp (λ a. 1 ≤ a)
rsdp_told None regions is = tt
rsdp_told (Some a) regions is = is.told

rsdp_small : (rsdp : Option ℕ) (regions : List Region)
    → IfSome rsdp (IsRsdp regions) → IfSome rsdp (λ a. a < 2 ^ 64)
rsdp_small None regions is = tt
rsdp_small (Some a) regions is = let low = is.low in omega arith

efi_sound : (efi : Option EfiFacts) (regions : List Region)
    → IfSome efi (IsEfi regions)
    → IfSome (option_map efi_info efi) (λ e. efi_fault e ≡ None)
efi_sound None regions is = tt
efi_sound (Some e) regions is = machine_efi_is_sound (efi_info e) is.sound

pub machine_told : (facts : MachineFacts) → IsWellFormedMachine facts
    → IsToldFirmware facts.firmware.screen facts.firmware.rsdp
    (option_map efi_info facts.firmware.efi)
machine_told facts is = record {
  screen = screen_sound facts.firmware.screen facts.runs is.firmware.screen;
  rsdp = rsdp_told facts.firmware.rsdp facts.runs is.firmware.rsdp;
  efi = efi_sound facts.firmware.efi facts.runs is.firmware.efi;
}

pub machine_rsdp_small : (facts : MachineFacts) → IsWellFormedMachine facts
    → IfSome facts.firmware.rsdp (λ a. a < 2 ^ 64)
machine_rsdp_small facts is =
    rsdp_small facts.firmware.rsdp facts.runs is.firmware.rsdp
