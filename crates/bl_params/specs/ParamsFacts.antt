-- What boot parameters tell to their reader: numbers of the header too.
use Rattle.std.specs.Prelude.{ℕ, List, Option}
use Rattle.bl_map.specs.declared.region.Region.{Region}
use Rattle.bl_map.specs.declared.firmware.efi.EfiInfo.{EfiInfo}
use Rattle.bl_map.specs.declared.firmware.screen.Screen.{Screen}

pub record ParamsFacts : Type 0 where
  pub version : ℕ
  pub loadflags : ℕ
  pub code32_start : ℕ
  pub ramdisk_image : ℕ
  pub ramdisk_size : ℕ
  pub cmd_line_ptr : ℕ
  pub initrd_addr_max : ℕ
  pub kernel_alignment : ℕ
  pub relocatable_kernel : ℕ
  pub xloadflags : ℕ
  pub cmdline_size : ℕ
  pub pref_address : ℕ
  pub init_size : ℕ
  pub runs : List Region
  pub screen : Option Screen
  pub rsdp : Option ℕ
  pub efi : Option EfiInfo
