-- The numbers of what is told of UEFI.
use Rattle.std.specs.Prelude.{ℕ, if◌then◌else◌, ◌==◌, Option, Some, None}
use Rattle.bl_map.specs.declared.firmware.efi.EfiBits.{EfiBits}
use Rattle.bl_map.specs.declared.firmware.efi.EfiBits.TheVariants.{Efi32, Efi64}
use Rattle.bl_map.specs.declared.firmware.efi.SecureBoot.{SecureBoot}
use Rattle.bl_map.specs.declared.firmware.efi.SecureBoot.TheVariants.{Unset, Unknown}
use Rattle.bl_map.specs.declared.firmware.efi.SecureBoot.TheVariants.{Disabled, Enabled}

-- own: how many bits
abbrev pub efi_bits_number : EfiBits → ℕ
efi_bits_number Efi32 = 32
efi_bits_number Efi64 = 64

unfoldable pub efi_bits_of : ℕ → Option EfiBits
efi_bits_of n = if n == 32 then Some Efi32 else if n == 64 then Some Efi64 else None

-- linux/efi.h: enum efi_secureboot_mode
abbrev pub secure_boot_number : SecureBoot → ℕ
secure_boot_number Unset = 0
secure_boot_number Unknown = 1
secure_boot_number Disabled = 2
secure_boot_number Enabled = 3

unfoldable pub secure_boot_of : ℕ → Option SecureBoot
secure_boot_of n =
    if n == 0 then Some Unset else
    if n == 1 then Some Unknown else
    if n == 2 then Some Disabled else
    if n == 3 then Some Enabled else None
