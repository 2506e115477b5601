-- What boot parameters tell a kernel beside its own header (Linux/x86 Boot Protocol, "Details of
-- Header Fields" and "Zero Page").
use Rattle.std.specs.Prelude.{◌≡◌, ◌≤◌, ℕ, List, length, All, Option, None, IfSome}
use Rattle.bl_map.specs.declared.region.Region.{Region}
use Rattle.bl_map.specs.Limits.{max_region_end}
use Rattle.bl_map.specs.NormalMap.{region_end}
use Rattle.bl_map.specs.declared.firmware.efi.EfiInfo.{EfiInfo}
use Rattle.bl_map.specs.declared.firmware.screen.Screen.{Screen}
use Rattle.bl_map.specs.FirmwareLimits.{screen_fault, efi_fault}

-- where the kernel lies and is entered, where the initrd lies and how long it is, where the line
-- is, the memory map; what firmware tells, each of which may be missing: the screen, the address of
-- ACPI's root pointer, UEFI
pub record ParamsToWriteFacts : Type 0 where
  pub code32_start : ℕ
  pub ramdisk_image : ℕ
  pub ramdisk_size : ℕ
  pub cmd_line_ptr : ℕ
  pub runs : List Region
  pub screen : Option Screen
  pub rsdp : Option ℕ
  pub efi : Option EfiInfo

-- how many entries "e820_table" has room for
abbrev pub max_e820_entries : ℕ
max_e820_entries = 128

-- own: a memory map that boot parameters have room for, each run of which ends at most at 2^52
pub record AreE820Runs (runs : List Region) : Type 0 where
  pub few : length runs ≤ max_e820_entries
  pub low : All (λ run. region_end run ≤ max_region_end) runs

-- own: what firmware tells is within its limits; an address of 0 would be "not told"
pub record IsToldFirmware (told_screen : Option Screen) (told_rsdp : Option ℕ)
    (told_efi : Option EfiInfo) : Type 0 where
  pub screen : IfSome told_screen (λ screen. screen_fault screen ≡ None)
  pub rsdp : IfSome told_rsdp (λ a. 1 ≤ a)
  pub efi : IfSome told_efi (λ efi. efi_fault efi ≡ None)
