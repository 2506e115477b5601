-- UEFI is read of bytes in which its struct and "secure_boot" stand, and they have the form.
use Rattle.std.proofs.Common.{◌≡◌, ◌+◌, ◌-◌, ◌%◌, ◌<◌, ◌≤◌, ◌^◌, ℕ, true, false, not, ◌&&◌, List}
use Rattle.std.proofs.Common.{slice_index, Option, Some, None, arith, refl, sym, ap, ◌∙◌, nat_lt}
use Rattle.std.proofs.Common.{nat_le}
use Rattle.std.specs.Prelude.{◌==◌, IfSome}
use Rattle.std.proofs.lemmas.Bool.{and_parts}
use Rattle.std.proofs.lemmas.List.FromFn.{get_or-map-range_with_len}
use Rattle.bl_mem.specs.LittleEndian.{u32_at}
use Rattle.bl_map.specs.declared.firmware.efi.EfiBits.{EfiBits}
use Rattle.bl_map.specs.declared.firmware.efi.EfiBits.TheVariants.{Efi32, Efi64}
use Rattle.bl_map.specs.declared.firmware.efi.EfiInfo.{EfiInfo}
use Rattle.bl_map.specs.FirmwareLimits.{efi_fault, are_descriptors}
use Rattle.bl_params.specs.FieldBytes.{number_bytes, byte_of_fields, low_half, high_half}
use Rattle.bl_params.specs.EfiInfo.{efi_signature, efi_fields, efi_info_bytes, secure_boot_byte}
use Rattle.bl_params.specs.EfiInfo.{efi_in, efi_of, has_efi_signature, has_efi_systab}
use Rattle.bl_params.specs.EfiInfo.{has_efi_memmap, has_efi_memmap_size, breaks_efi}
use Rattle.bl_params.specs.EfiInfo.{breaks_efi_info, breaks_secure_boot}
use Rattle.bl_params.proofs.LimitLemmas.{IsSoundEfi, efi_sound}
use Rattle.bl_params.proofs.EfiLimitLemmas.{AreSmall, low_table, halves, secure_boot_small}
use Rattle.bl_params.proofs.EfiLimitLemmas.{table_fits}
use Rattle.bl_params.proofs.EfiFieldsTold.{HasEfiInfo, small, signature, systab, each, version}
use Rattle.bl_params.proofs.EfiFieldsTold.{memmap, size, systab_hi, memmap_hi, secure, table}
use Rattle.bl_params.proofs.NumberLemmas.{u32_told}
use Rattle.bl_params.proofs.ScreenLemmas.{kept}

module _ (bytes : List ℕ) (e : EfiInfo) (is : IsSoundEfi e) (fits : e.system_table < 2 ^ 64)
    (told : HasEfiInfo bytes (Some e)) where
  bound : AreSmall e
  bound = small bytes e is fits told

  sign : u32_at bytes 0x1C0 ≡ efi_signature e.bits
  sign = signature bytes e is fits told

  low : u32_at bytes 0x1C4 ≡ low_half e.system_table
  low = systab bytes e is fits told

  high : u32_at bytes 0x1D8 ≡ high_half e.system_table
  high = systab_hi bytes e is fits told

  is_told : (bits : EfiBits) → bits ≡ e.bits → efi_in bytes bits ≡ e
  unfolding efi_in
  is_told bits same =
      λ i. record {
        bits = same i;
        system_table = table bytes e is fits told i;
        map_address = memmap bytes e is fits told i;
        map_size = size bytes e is fits told i;
        descriptor_size = each bytes e is fits told i;
        descriptor_version = version bytes e is fits told i;
        secure_boot = secure bytes e is fits told i;
      }

  here_by : (bits : EfiBits) → bits ≡ e.bits → u32_at bytes 0x1C0 ≡ efi_signature bits
      → efi_of bytes ≡ Some e
  unfolding efi_of
  here_by Efi32 same s = rw s (ap Some (is_told Efi32 same))
  here_by Efi64 same s = rw s (ap Some (is_told Efi64 same))

  pub here : efi_of bytes ≡ Some e
  here = here_by e.bits refl sign

  signed_by : (bits : EfiBits) → bits ≡ e.bits → u32_at bytes 0x1C0 ≡ efi_signature bits
      → has_efi_signature bytes ≡ true
  signed_by Efi32 same s =
      let none = low_table e.bits e.system_table is.table (sym same) in rw (s, high, none) refl
  signed_by Efi64 same s = rw s refl

  systab_told : has_efi_systab bytes ≡ true
  systab_told = rw (low, high) (halves e.system_table bound.table)

  pub sound : (k : ℕ) → breaks_efi bytes k ≡ false
  unfolding breaks_efi
  sound k =
      let one : u32_at bytes 0x1CC ≡ 1 = version bytes e is fits told ∙ bound.version in
      let d = each bytes e is fits told in
      let n = size bytes e is fits told in
      let a = memmap bytes e is fits told in
      let place =
      and_parts (nat_le 1 e.map_address && e.map_address % 8 == 0)
      (nat_le (e.map_address + e.map_size) (2 ^ 32)) is.place in
      let t1 = kept k 0x1C0 (has_efi_signature bytes) (signed_by e.bits refl sign) in
      let t2 =
      kept k 0x1C8 (are_descriptors (u32_at bytes 0x1C8) 1)
      (ap (λ (x : ℕ). are_descriptors x 1) d
      ∙ ap (λ (v : ℕ). are_descriptors e.descriptor_size v) (sym bound.version) ∙ is.descriptors) in
      let t3 = kept k 0x1CC (u32_at bytes 0x1CC == 1) (rw one refl) in
      let t4 = kept k 0x1D0 (has_efi_memmap bytes) (rw a place.0) in
      let t5 =
      kept k 0x1D4 (has_efi_memmap_size bytes) (rw (d, n, a) (rw (is.size, place.1) refl)) in
      let t6 = kept k 0x1D8 (has_efi_systab bytes) systab_told in
      let t7 = kept k 0x1DC (u32_at bytes 0x1DC == 0) (rw (memmap_hi bytes e is fits told) refl) in
      rw (t1, t2, t3, t4, t5, t6, t7) refl

  told_not_zero : (bits : EfiBits) → u32_at bytes 0x1C0 ≡ efi_signature bits
      → (u32_at bytes 0x1C0 == 0) ≡ false
  told_not_zero Efi32 s = rw s refl
  told_not_zero Efi64 s = rw s refl

  pub form : (k : ℕ) → breaks_efi_info bytes k ≡ false
  unfolding breaks_efi_info
  form k = rw (told_not_zero e.bits sign) (sound k)

  pub secure_form : breaks_secure_boot bytes ≡ false
  unfolding breaks_secure_boot secure_boot_byte
  secure_form =
      rw (told_not_zero e.bits sign)
      (ap (λ (n : ℕ). nat_lt 3 n) told.secure ∙ secure_boot_small e.secure_boot)

-- ---- no UEFI

none_byte : (bytes : List ℕ) → HasEfiInfo bytes None → (k : ℕ) → 0x1C0 ≤ k → k < 0x1E0
    → slice_index bytes k ≡ 0
unfolding efi_info_bytes
none_byte bytes told k from below =
    let place : k ≡ 0x1C0 + (k - 0x1C0) = omega arith in
    ap (λ (j : ℕ). slice_index bytes j) place ∙ told.info (k - 0x1C0) (omega arith)
    ∙ get_or-map-range_with_len (byte_of_fields (efi_fields None)) 0 0x20 (k - 0x1C0) (k - 0x1C0) 0
    (omega arith) (omega arith)

none_signature : (bytes : List ℕ) → HasEfiInfo bytes None → u32_at bytes 0x1C0 ≡ 0
unfolding number_bytes
none_signature bytes told =
    u32_told 0x1C0 0 bytes (omega arith) (none_byte bytes told 0x1C0 (omega arith) (omega arith))
    (none_byte bytes told 0x1C1 (omega arith) (omega arith))
    (none_byte bytes told 0x1C2 (omega arith) (omega arith))
    (none_byte bytes told 0x1C3 (omega arith) (omega arith))

none_here : (bytes : List ℕ) → HasEfiInfo bytes None → efi_of bytes ≡ None
unfolding efi_of
none_here bytes told = rw (none_signature bytes told) refl

none_form : (bytes : List ℕ) → HasEfiInfo bytes None → (k : ℕ) → 0x1C0 ≤ k → k < 0x1E0
    → breaks_efi_info bytes k ≡ false
unfolding breaks_efi_info
none_form bytes told k from below =
    rw (none_signature bytes told)
    (ap (λ (b : ℕ). not (b == 0)) (none_byte bytes told k from below))

none_secure : (bytes : List ℕ) → HasEfiInfo bytes None → breaks_secure_boot bytes ≡ false
unfolding breaks_secure_boot secure_boot_byte
none_secure bytes told =
    rw (none_signature bytes told) (ap (λ (b : ℕ). not (b == 0)) told.secure)

-- ---- either

module _ (bytes : List ℕ) (e : EfiInfo) (no : efi_fault e ≡ None)
    (told : HasEfiInfo bytes (Some e)) where
  is : IsSoundEfi e
  is = efi_sound e no

  fits : e.system_table < 2 ^ 64
  fits = table_fits e.bits e.system_table is.table

  some_here : efi_of bytes ≡ Some e
  some_here = here bytes e is fits told

  some_form : (k : ℕ) → breaks_efi_info bytes k ≡ false
  some_form = form bytes e is fits told

  some_secure : breaks_secure_boot bytes ≡ false
  some_secure = secure_form bytes e is fits told

-- UEFI within its limits, if it is told
abbrev pub IsSoundIfTold : Option EfiInfo → Type 0
IsSoundIfTold efi = IfSome efi (λ e. efi_fault e ≡ None)

pub efi_read : (bytes : List ℕ) (efi : Option EfiInfo) → IsSoundIfTold efi → HasEfiInfo bytes efi
    → efi_of bytes ≡ efi
efi_read bytes None sound told = none_here bytes told
efi_read bytes (Some e) sound told = some_here bytes e sound told

pub efi_form : (bytes : List ℕ) (efi : Option EfiInfo) → IsSoundIfTold efi → HasEfiInfo bytes efi
    → (k : ℕ) → 0x1C0 ≤ k → k < 0x1E0 → breaks_efi_info bytes k ≡ false
efi_form bytes None sound told k from below = none_form bytes told k from below
efi_form bytes (Some e) sound told k from below = some_form bytes e sound told k

pub secure_boot_form : (bytes : List ℕ) (efi : Option EfiInfo) → IsSoundIfTold efi
    → HasEfiInfo bytes efi → breaks_secure_boot bytes ≡ false
secure_boot_form bytes None sound told = none_secure bytes told
secure_boot_form bytes (Some e) sound told = some_secure bytes e sound told
