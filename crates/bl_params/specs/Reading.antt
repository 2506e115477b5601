-- What is read of boot parameters, or why they are refused.
use Rattle.std.specs.Prelude.{◌≡◌, ◌==◌, ℕ, ◌+◌, ◌<◌, if◌then◌else◌, List, [], ◌∷◌, length}
use Rattle.std.specs.Prelude.{slice_index, true, false, Option, Some, None}
use Rattle.bl_mem.specs.LittleEndian.{u16_at, u32_at, u64_at}
use Rattle.bl_mem.specs.Least.{IsLeast}
use Rattle.bl_map.specs.declared.region.Region.{Region}
use Rattle.bl_map.specs.Kinds.{kind_number}
use Rattle.bl_params.specs.declared.fault.ParamFault.{ParamFault}
use Rattle.bl_params.specs.declared.fault.ParamFault.TheVariants.{WrongLength, BadParams, NoMemory}
use Rattle.bl_params.specs.BootParamsForm.{breaks_at, e820_entry_count}
use Rattle.bl_params.specs.ParamsFacts.{ParamsFacts}
use Rattle.bl_params.specs.ScreenInfo.{screen_of}
use Rattle.bl_params.specs.EfiInfo.{efi_of}
use Rattle.bl_params.specs.SizesAndOffsets.{params_size, e820_table_at, e820_entry_size}
use Rattle.bl_params.specs.SizesAndOffsets.{e820_size_at}
use Rattle.bl_params.specs.SizesAndOffsets.{e820_type_at}

-- the entry of "e820_table" that stands at an offset
pub record IsE820Entry (bytes : List ℕ) (at : ℕ) (run : Region) : Type 0 where
  pub base : run.base ≡ u64_at bytes at
  pub size : run.length ≡ u64_at bytes (at + e820_size_at)
  pub kind : kind_number run.kind ≡ u32_at bytes (at + e820_type_at)

-- the entries from an offset on, one after the other
abbrev pub AreE820Entries : List ℕ → ℕ → List Region → Type 0
AreE820Entries bytes at [] = Unit {0}
AreE820Entries bytes at (run ∷ runs) =
    IsE820Entry bytes at run × AreE820Entries bytes (at + e820_entry_size) runs

-- "acpi_rsdp_addr": 0 is "not told"
unfoldable pub rsdp_of : List ℕ → Option ℕ
rsdp_of bytes = if u64_at bytes 0x070 == 0 then None else Some (u64_at bytes 0x070)

-- these bytes have the form, and tell this: each number at its offset, and as many runs as are
-- counted
pub record IsParams (bytes : List ℕ) (params : ParamsFacts) : Type 0 where
  pub size : length bytes ≡ params_size
  pub sound : (k : ℕ) → k < params_size → breaks_at bytes k ≡ false
  pub version : params.version ≡ u16_at bytes 0x206
  pub loadflags : params.loadflags ≡ slice_index bytes 0x211
  pub code32_start : params.code32_start ≡ u32_at bytes 0x214
  pub ramdisk_image : params.ramdisk_image ≡ u32_at bytes 0x218
  pub ramdisk_size : params.ramdisk_size ≡ u32_at bytes 0x21C
  pub cmd_line_ptr : params.cmd_line_ptr ≡ u32_at bytes 0x228
  pub initrd_addr_max : params.initrd_addr_max ≡ u32_at bytes 0x22C
  pub kernel_alignment : params.kernel_alignment ≡ u32_at bytes 0x230
  pub relocatable_kernel : params.relocatable_kernel ≡ slice_index bytes 0x234
  pub xloadflags : params.xloadflags ≡ u16_at bytes 0x236
  pub cmdline_size : params.cmdline_size ≡ u32_at bytes 0x238
  pub pref_address : params.pref_address ≡ u64_at bytes 0x258
  pub init_size : params.init_size ≡ u32_at bytes 0x260
  pub count : length params.runs ≡ e820_entry_count bytes
  pub runs : AreE820Entries bytes e820_table_at params.runs
  pub screen : params.screen ≡ screen_of bytes
  pub rsdp : params.rsdp ≡ rsdp_of bytes
  pub efi : params.efi ≡ efi_of bytes

-- the least offset that breaks the form, of as many bytes as boot parameters have; or memory ran
-- out
abbrev pub HasFirstParamFault : List ℕ → ParamFault → Type 0
HasFirstParamFault bytes WrongLength = ¬ (length bytes ≡ params_size)
HasFirstParamFault bytes (BadParams k) =
    (length bytes ≡ params_size)
    × IsLeast (λ j. (j < params_size) × (breaks_at bytes j ≡ true)) k
HasFirstParamFault bytes NoMemory = Unit {0}
