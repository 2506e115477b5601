-- The numbers that bytes tell in which UEFI's struct and "secure_boot" stand.
use Rattle.std.proofs.Common.{◌≡◌, ◌+◌, ◌*◌, ◌<◌, ◌^◌, ℕ, List, slice_index}
use Rattle.std.proofs.Common.{Option, Some, arith, ap, ◌∙◌}
use Rattle.std.specs.Prelude.{unwrap_or}
use Rattle.std.proofs.lemmas.List.FromFn.{get_or-map-range_with_len}
use Rattle.bl_mem.specs.LittleEndian.{u32_at}
use Rattle.bl_map.specs.declared.firmware.efi.EfiInfo.{EfiInfo}
use Rattle.bl_map.specs.declared.firmware.efi.SecureBoot.{SecureBoot}
use Rattle.bl_map.specs.declared.firmware.efi.SecureBoot.TheVariants.{Unset}
use Rattle.bl_map.specs.FirmwareNumbers.{secure_boot_of}
use Rattle.bl_params.specs.FieldBytes.{number_bytes, byte_over, byte_of_fields, low_half, high_half}
use Rattle.bl_params.specs.EfiInfo.{efi_signature, efi_fields, efi_info_bytes, secure_boot_byte}
use Rattle.bl_params.proofs.LimitLemmas.{IsSoundEfi}
use Rattle.bl_params.proofs.EfiLimitLemmas.{AreSmall, are_small, signature_small, secure_boot_back}
use Rattle.bl_params.proofs.NumberLemmas.{u32_told}

-- the struct and "secure_boot" stand there
pub record HasEfiInfo (bytes : List ℕ) (efi : Option EfiInfo) : Type 0 where
  pub info : (k : ℕ) → k < 0x20 → slice_index bytes (0x1C0 + k) ≡ slice_index (efi_info_bytes efi) k
  pub secure : slice_index bytes 0x1EC ≡ secure_boot_byte efi

module _ (bytes : List ℕ) (e : EfiInfo) (is : IsSoundEfi e) (fits : e.system_table < 2 ^ 64)
    (told : HasEfiInfo bytes (Some e)) where
  pub small : AreSmall e
  small = are_small e is

  byte : (k : ℕ) → k < 0x20
      → slice_index bytes (0x1C0 + k) ≡ byte_of_fields (efi_fields (Some e)) k
  unfolding efi_info_bytes
  byte k within =
      told.info k within
      ∙ get_or-map-range_with_len (byte_of_fields (efi_fields (Some e))) 0 0x20 k k 0 within
      (omega arith)

  pub signature : u32_at bytes 0x1C0 ≡ efi_signature e.bits
  unfolding byte_over number_bytes
  signature =
      u32_told 0x1C0 (efi_signature e.bits) bytes (signature_small e.bits)
      (byte 0x00 (omega arith)) (byte 0x01 (omega arith)) (byte 0x02 (omega arith))
      (byte 0x03 (omega arith))

  pub systab : u32_at bytes 0x1C4 ≡ low_half e.system_table
  unfolding byte_over number_bytes
  systab =
      u32_told 0x1C4 (low_half e.system_table) bytes (omega arith)
      (byte 0x04 (omega arith)) (byte 0x05 (omega arith)) (byte 0x06 (omega arith))
      (byte 0x07 (omega arith))

  pub each : u32_at bytes 0x1C8 ≡ e.descriptor_size
  unfolding byte_over number_bytes
  each =
      let bound = small in
      u32_told 0x1C8 e.descriptor_size bytes (omega arith)
      (byte 0x08 (omega arith)) (byte 0x09 (omega arith)) (byte 0x0A (omega arith))
      (byte 0x0B (omega arith))

  pub version : u32_at bytes 0x1CC ≡ e.descriptor_version
  unfolding byte_over number_bytes
  version =
      let bound = small in
      u32_told 0x1CC e.descriptor_version bytes (omega arith)
      (byte 0x0C (omega arith)) (byte 0x0D (omega arith)) (byte 0x0E (omega arith))
      (byte 0x0F (omega arith))

  pub memmap : u32_at bytes 0x1D0 ≡ e.map_address
  unfolding byte_over number_bytes
  memmap =
      let bound = small in
      u32_told 0x1D0 e.map_address bytes (omega arith)
      (byte 0x10 (omega arith)) (byte 0x11 (omega arith)) (byte 0x12 (omega arith))
      (byte 0x13 (omega arith))

  pub size : u32_at bytes 0x1D4 ≡ e.map_size
  unfolding byte_over number_bytes
  size =
      let bound = small in
      u32_told 0x1D4 e.map_size bytes (omega arith)
      (byte 0x14 (omega arith)) (byte 0x15 (omega arith)) (byte 0x16 (omega arith))
      (byte 0x17 (omega arith))

  pub systab_hi : u32_at bytes 0x1D8 ≡ high_half e.system_table
  unfolding byte_over number_bytes
  systab_hi =
      u32_told 0x1D8 (high_half e.system_table) bytes (omega arith)
      (byte 0x18 (omega arith)) (byte 0x19 (omega arith)) (byte 0x1A (omega arith))
      (byte 0x1B (omega arith))

  pub memmap_hi : u32_at bytes 0x1DC ≡ 0
  unfolding byte_over number_bytes
  memmap_hi =
      let bound = small in
      let none : high_half e.map_address ≡ 0 = omega arith in
      u32_told 0x1DC (high_half e.map_address) bytes (omega arith)
      (byte 0x1C (omega arith)) (byte 0x1D (omega arith)) (byte 0x1E (omega arith))
      (byte 0x1F (omega arith))
      ∙ none

  pub secure : unwrap_or (secure_boot_of (slice_index bytes 0x1EC)) Unset ≡ e.secure_boot
  unfolding secure_boot_byte
  secure =
      ap (λ (n : ℕ). unwrap_or (secure_boot_of n) Unset) told.secure
      ∙ ap (λ (o : Option SecureBoot). unwrap_or o Unset) (secure_boot_back e.secure_boot)

  pub table : u32_at bytes 0x1C4 + 2 ^ 32 * u32_at bytes 0x1D8 ≡ e.system_table
  table = rw (systab, systab_hi) (omega arith)
