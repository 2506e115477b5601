-- UEFI in boot parameters: a `struct efi_info` at 0x1C0, and "secure_boot" (Linux/x86 Boot
-- Protocol, "Zero Page"; asm/bootparam.h).
use Rattle.std.specs.Prelude.{ℕ, ◌+◌, ◌*◌, ◌%◌, ◌^◌, Bool, ◌&&◌, ◌||◌, not, ◌==◌, nat_lt, nat_le}
use Rattle.std.specs.Prelude.{if◌then◌else◌, List, [], ◌∷◌, slice_index, Option, Some, None}
use Rattle.std.specs.Prelude.{unwrap_or}
use Rattle.bl_mem.specs.LittleEndian.{u32_at}
use Rattle.bl_map.specs.declared.firmware.efi.EfiBits.{EfiBits}
use Rattle.bl_map.specs.declared.firmware.efi.EfiBits.TheVariants.{Efi32, Efi64}
use Rattle.bl_map.specs.declared.firmware.efi.EfiInfo.{EfiInfo}
use Rattle.bl_map.specs.declared.firmware.efi.SecureBoot.TheVariants.{Unset}
use Rattle.bl_map.specs.FirmwareLimits.{are_descriptors, is_efi_map_size}
use Rattle.bl_map.specs.FirmwareNumbers.{secure_boot_number, secure_boot_of}
use Rattle.bl_params.specs.FieldBytes.{number_bytes, bytes_of_fields, low_half, high_half}
use Rattle.bl_params.specs.FieldBytes.{is_nonzero_at}

-- the bytes `EL32` and `EL64`
abbrev pub efi_signature : EfiBits → ℕ
efi_signature Efi32 = 0x32334C45
efi_signature Efi64 = 0x34364C45

-- the fields that tell UEFI, each at its offset in the struct
abbrev pub efi_fields : Option EfiInfo → List (ℕ × List ℕ)
efi_fields None = []
efi_fields (Some efi) =
    (0x00, number_bytes 4 (efi_signature efi.bits))  -- efi_loader_signature
    ∷ (0x04, number_bytes 4 (low_half efi.system_table))  -- efi_systab
    ∷ (0x08, number_bytes 4 efi.descriptor_size)  -- efi_memdesc_size
    ∷ (0x0C, number_bytes 4 efi.descriptor_version)  -- efi_memdesc_version
    ∷ (0x10, number_bytes 4 efi.map_address)  -- efi_memmap
    ∷ (0x14, number_bytes 4 efi.map_size)  -- efi_memmap_size
    ∷ (0x18, number_bytes 4 (high_half efi.system_table))  -- efi_systab_hi
    ∷ (0x1C, number_bytes 4 (high_half efi.map_address))  -- efi_memmap_hi: 0
    ∷ []

-- all of them; without UEFI nothing but 0
unfoldable pub efi_info_bytes : Option EfiInfo → List ℕ
efi_info_bytes efi = bytes_of_fields 0x20 (efi_fields efi)

-- "secure_boot": 0 is "unset"
unfoldable pub secure_boot_byte : Option EfiInfo → ℕ
secure_boot_byte None = 0
secure_boot_byte (Some efi) = secure_boot_number efi.secure_boot

-- what the fields tell of UEFI with so many bits
unfoldable pub efi_in : List ℕ → EfiBits → EfiInfo
efi_in bytes bits = record {
  bits = bits;
  system_table = u32_at bytes 0x1C4 + 2 ^ 32 * u32_at bytes 0x1D8;
  map_address = u32_at bytes 0x1D0;
  map_size = u32_at bytes 0x1D4;
  descriptor_size = u32_at bytes 0x1C8;
  descriptor_version = u32_at bytes 0x1CC;
  secure_boot = unwrap_or (secure_boot_of (slice_index bytes 0x1EC)) Unset;
}

-- none without a signature
unfoldable pub efi_of : List ℕ → Option EfiInfo
efi_of bytes =
    if u32_at bytes 0x1C0 == efi_signature Efi32 then Some (efi_in bytes Efi32) else
    if u32_at bytes 0x1C0 == efi_signature Efi64 then Some (efi_in bytes Efi64) else None

-- with 32 bits the system table lies below 4 GiB
abbrev pub has_efi_signature : List ℕ → Bool
has_efi_signature bytes =
    (u32_at bytes 0x1C0 == efi_signature Efi32 && u32_at bytes 0x1D8 == 0)
    || u32_at bytes 0x1C0 == efi_signature Efi64

-- an address of 0 would be none
abbrev pub has_efi_systab : List ℕ → Bool
has_efi_systab bytes = not (u32_at bytes 0x1C4 == 0 && u32_at bytes 0x1D8 == 0)

-- the memory map lies below 4 GiB, at a multiple of 8
abbrev pub has_efi_memmap : List ℕ → Bool
has_efi_memmap bytes = nat_le 1 (u32_at bytes 0x1D0) && (u32_at bytes 0x1D0 % 8 == 0)

abbrev pub has_efi_memmap_size : List ℕ → Bool
has_efi_memmap_size bytes =
    is_efi_map_size (u32_at bytes 0x1C8) (u32_at bytes 0x1D4)
    && nat_le (u32_at bytes 0x1D0 + u32_at bytes 0x1D4) (2 ^ 32)

-- whether what stands at an offset of the struct breaks the limits of UEFI, which is told
unfoldable pub breaks_efi : List ℕ → ℕ → Bool
breaks_efi bytes k =
    (k == 0x1C0 && not (has_efi_signature bytes))  -- efi_loader_signature
    || (k == 0x1C8 && not (are_descriptors (u32_at bytes 0x1C8) 1))  -- efi_memdesc_size
    || (k == 0x1CC && not (u32_at bytes 0x1CC == 1))  -- efi_memdesc_version
    || (k == 0x1D0 && not (has_efi_memmap bytes))  -- efi_memmap
    || (k == 0x1D4 && not (has_efi_memmap_size bytes))  -- efi_memmap_size
    || (k == 0x1D8 && not (has_efi_systab bytes))  -- efi_systab_hi
    || (k == 0x1DC && not (u32_at bytes 0x1DC == 0))  -- efi_memmap_hi

-- the same for the struct's bytes, whether UEFI is told or not
unfoldable pub breaks_efi_info : List ℕ → ℕ → Bool
breaks_efi_info bytes k =
    if u32_at bytes 0x1C0 == 0 then is_nonzero_at bytes k else breaks_efi bytes k

-- and for "secure_boot"
unfoldable pub breaks_secure_boot : List ℕ → Bool
breaks_secure_boot bytes =
    if u32_at bytes 0x1C0 == 0 then is_nonzero_at bytes 0x1EC else
    nat_lt 3 (slice_index bytes 0x1EC)
