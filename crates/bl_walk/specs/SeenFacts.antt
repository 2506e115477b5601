-- What a kernel sees in an image.
use Rattle.std.specs.Prelude.{ℕ, List, Option}
use Rattle.bl_map.specs.Firmware.{SmbiosFacts}
use Rattle.bl_map.specs.declared.firmware.efi.EfiInfo.{EfiInfo}
use Rattle.bl_map.specs.declared.firmware.screen.Screen.{Screen}
use Rattle.bl_map.specs.declared.region.Region.{Region}
use Rattle.bl_mbi.specs.InfoToWriteFacts.{EfiTables}
use Rattle.bl_plan.specs.declared.protocol.Protocol.{Protocol}
use Rattle.bl_walk.specs.declared.seen.SeenPart.{SeenPart}

-- a module: the address of its first byte, its bytes, its line
pub record SeenModuleFacts : Type 0 where
  pub mod_start : ℕ
  pub bytes : List ℕ
  pub line : List ℕ

-- an initial ramdisk: the address of its first byte, its bytes
pub record SeenFileFacts : Type 0 where
  pub address : ℕ
  pub bytes : List ℕ

-- what firmware tells, each where the kernel's protocol tells it: the screen by both; the address
-- of ACPI's root pointer and UEFI's numbers by boot parameters; UEFI's system table with its memory
-- map, and SMBIOS, by boot information
pub record SeenFirmwareFacts : Type 0 where
  pub screen : Option Screen
  pub rsdp : Option ℕ
  pub efi_info : Option EfiInfo
  pub efi_tables : Option EfiTables
  pub smbios : Option SmbiosFacts

-- the protocol, the address that the kernel is entered at, its line, its parts in address order,
-- the modules in order, the initial ramdisk, the memory map, the copies of the old and of the new
-- RSDP, what firmware tells
pub record SeenFacts : Type 0 where
  pub protocol : Protocol
  pub entry : ℕ
  pub line : List ℕ
  pub kernel : List SeenPart
  pub modules : List SeenModuleFacts
  pub initrd : Option SeenFileFacts
  pub map : List Region
  pub rsdp_old : Option (List ℕ)
  pub rsdp_new : Option (List ℕ)
  pub firmware : SeenFirmwareFacts
