-- The facts of boot information (Multiboot2 3.6 "Boot information format"), and what of them has a
-- spelling.
use Rattle.std.specs.Prelude.{◌≡◌, ◌≢◌, ◌^◌, ◌<◌, ◌≤◌, ℕ, true, List, length, map, All, Option}
use Rattle.std.specs.Prelude.{None, option_map, is_some, IfSome}
use Rattle.bl_map.specs.declared.firmware.efi.EfiBits.{EfiBits}
use Rattle.bl_map.specs.declared.firmware.screen.Screen.{Screen}
use Rattle.bl_map.specs.declared.region.Region.{Region}
use Rattle.bl_map.specs.Firmware.{EfiFacts, SmbiosFacts, FitsSmbiosFields}
use Rattle.bl_map.specs.FirmwareLimits.{screen_fault, is_system_table, are_descriptors}
use Rattle.bl_map.specs.FirmwareLimits.{is_efi_map_size, is_smbios_size}
use Rattle.bl_map.specs.Limits.{max_region_end, max_low_kib}
use Rattle.bl_map.specs.NormalMap.{region_end}
use Rattle.bl_mbi.specs.Size.{size_by_lengths}

-- 3.6.6 "Modules": the addresses of its first byte and after its last one, and its line
pub record ModuleInfo : Type 0 where
  pub mod_start : ℕ
  pub mod_end : ℕ
  pub line : List ℕ

-- 3.6, sections "EFI 32-bit system table pointer", "EFI 64-bit system table pointer" and "EFI
-- memory map": the address of UEFI's system table, and its memory map with the size and version of
-- a descriptor
pub record EfiTables : Type 0 where
  pub bits : EfiBits
  pub system_table : ℕ
  pub descriptor_size : ℕ
  pub descriptor_version : ℕ
  pub map : List ℕ

-- what of UEFI is told
abbrev pub efi_tables : EfiFacts → EfiTables
efi_tables efi = record {
  bits = efi.bits;
  system_table = efi.system_table;
  descriptor_size = efi.descriptor_size;
  descriptor_version = efi.descriptor_version;
  map = efi.map;
}

-- the kernel's line, the modules in their order, KiB of memory below and above 1 MiB, the memory
-- map's runs, what firmware tells (the screen, UEFI, SMBIOS), the copies of the ACPI tables' roots,
-- the address that a relocated kernel was loaded at
pub record InfoToWriteFacts : Type 0 where
  pub line : List ℕ
  pub modules : List ModuleInfo
  pub mem_lower : ℕ
  pub mem_upper : ℕ
  pub runs : List Region
  pub screen : Option Screen
  pub efi : Option EfiTables
  pub smbios : Option SmbiosFacts
  pub rsdp_old : Option (List ℕ)
  pub rsdp_new : Option (List ℕ)
  pub load_base : Option ℕ

-- bytes with no zero among them, since a zero ends a text
abbrev pub IsText : List ℕ → Type 0
IsText text = All (λ c. (c ≢ 0) × (c < 256)) text

abbrev pub AreBytes : List ℕ → Type 0
AreBytes bytes = All (λ b. b < 256) bytes

pub record IsModule (m : ModuleInfo) : Type 0 where
  pub forward : m.mod_start ≤ m.mod_end
  pub small : m.mod_end < 2 ^ 32
  pub line : IsText m.line

-- a screen within its limits
abbrev pub IsToldScreen : Screen → Type 0
IsToldScreen screen = screen_fault screen ≡ None

pub record IsToldEfi (efi : EfiTables) : Type 0 where
  pub system_table : is_system_table efi.bits efi.system_table ≡ true
  pub descriptors : are_descriptors efi.descriptor_size efi.descriptor_version ≡ true
  pub size : is_efi_map_size efi.descriptor_size (length efi.map) ≡ true
  pub map : AreBytes efi.map

pub record IsToldSmbios (smbios : SmbiosFacts) : Type 0 where
  pub size : is_smbios_size (length smbios.tables) ≡ true
  pub fields : FitsSmbiosFields smbios

-- each number is in the range of its field, each text has no zero
pub record FitsInfoFields (facts : InfoToWriteFacts) : Type 0 where
  pub line : IsText facts.line
  pub modules : All IsModule facts.modules
  pub mem_lower : facts.mem_lower ≤ max_low_kib
  pub mem_upper : facts.mem_upper < 2 ^ 32
  pub runs : All (λ run. region_end run ≤ max_region_end) facts.runs
  pub screen : IfSome facts.screen IsToldScreen
  pub efi : IfSome facts.efi IsToldEfi
  pub smbios : IfSome facts.smbios IsToldSmbios
  pub rsdp_old : IfSome facts.rsdp_old AreBytes
  pub rsdp_new : IfSome facts.rsdp_new AreBytes
  pub load_base : IfSome facts.load_base (λ base. base < 2 ^ 32)

-- how many bytes the facts take, with the loader's name `bootcore`
abbrev pub info_size : InfoToWriteFacts → ℕ
info_size facts =
    size_by_lengths (length facts.line) (map (λ m. length m.line) facts.modules) (length facts.runs)
    (option_map length facts.rsdp_old) (option_map length facts.rsdp_new) (is_some facts.load_base)
    (is_some facts.screen) (option_map (λ e. length e.map) facts.efi)
    (option_map (λ s. length s.tables) facts.smbios)

-- facts that have a spelling with the loader's name `bootcore`: each fits its field, and the total
-- size fits its own
pub record HasSpelling (facts : InfoToWriteFacts) : Type 0 where
  pub told : FitsInfoFields facts
  pub small : info_size facts < 2 ^ 32
