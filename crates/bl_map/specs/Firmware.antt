-- What firmware tells of a machine beside its memory; each may be missing. Own: a kernel is told it
-- in its protocol's form (Multiboot2 3.6 "Boot information format"; Linux/x86 Boot Protocol, "Zero
-- Page").
use Rattle.std.specs.Prelude.{ℕ, ◌<◌, List, [], length, All, Option, None, IfSome}
use Rattle.std.specs.declared.ops.Range.{Range}
use Rattle.bl_map.specs.declared.firmware.efi.EfiBits.{EfiBits}
use Rattle.bl_map.specs.declared.firmware.efi.EfiInfo.{EfiInfo}
use Rattle.bl_map.specs.declared.firmware.efi.SecureBoot.{SecureBoot}
use Rattle.bl_map.specs.declared.firmware.screen.Screen.{Screen}

-- UEFI (UEFI Specification 2.10): how wide its addresses are, its system table (4.3), its memory
-- map (7.2, GetMemoryMap) and the address at which that lies, the state of secure boot
pub record EfiFacts : Type 0 where
  pub bits : EfiBits
  pub system_table : ℕ
  pub map_address : ℕ
  pub map : List ℕ
  pub descriptor_size : ℕ
  pub descriptor_version : ℕ
  pub secure_boot : SecureBoot

-- the same with the map's length in place of its bytes
abbrev pub efi_info : EfiFacts → EfiInfo
efi_info efi = record {
  bits = efi.bits;
  system_table = efi.system_table;
  map_address = efi.map_address;
  map_size = length efi.map;
  descriptor_size = efi.descriptor_size;
  descriptor_version = efi.descriptor_version;
  secure_boot = efi.secure_boot;
}

-- SMBIOS (DSP0134): its version, and its tables as they stand
pub record SmbiosFacts : Type 0 where
  pub major : ℕ
  pub minor : ℕ
  pub tables : List ℕ

-- the screen, the address of ACPI's root pointer, UEFI, SMBIOS, and the ranges that are avoided:
-- memory that is told as what it is, but in which nothing is placed
pub record FirmwareFacts : Type 0 where
  pub screen : Option Screen
  pub rsdp : Option ℕ
  pub efi : Option EfiFacts
  pub smbios : Option SmbiosFacts
  pub avoided : List (Range ℕ)

-- it tells nothing
abbrev pub no_firmware : FirmwareFacts
no_firmware =
    record { screen = None; rsdp = None; efi = None; smbios = None; avoided = [] }

-- each byte is one, and each number that has no limit of its own fits its field
pub record FitsEfiFields (efi : EfiFacts) : Type 0 where
  pub map : All (λ b. b < 256) efi.map

pub record FitsSmbiosFields (smbios : SmbiosFacts) : Type 0 where
  pub major : smbios.major < 256
  pub minor : smbios.minor < 256
  pub tables : All (λ b. b < 256) smbios.tables

pub record FitsFirmwareFields (firmware : FirmwareFacts) : Type 0 where
  pub efi : IfSome firmware.efi FitsEfiFields
  pub smbios : IfSome firmware.smbios FitsSmbiosFields
