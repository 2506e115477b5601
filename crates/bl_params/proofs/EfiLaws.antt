-- What boot parameters tell of UEFI is within its limits.
use Rattle.std.proofs.Common.{◌≡◌, ◌≤◌, ◌<◌, ◌+◌, ◌*◌, ◌^◌, ℕ, Bool, true, false, not, ◌&&◌, ◌||◌}
use Rattle.std.proofs.Common.{nat_le, List, drop, slice_index, Some, None, arith, rules}
use Rattle.std.proofs.Common.{refl, sym, subst, ap, ◌∙◌}
use Rattle.std.specs.Prelude.{◌==◌, if◌then◌else◌, IfSome}
use Rattle.std.proofs.lemmas.Bool.{and_parts}
use Rattle.std.proofs.lemmas.Bool.Decides.{nat_tests}
use Rattle.std.proofs.lemmas.List.{places}
use Rattle.byteorder.specs.Numbers.{little_from-lt}
use Rattle.bl_mem.specs.LittleEndian.{number_at, u32_at}
use Rattle.bl_map.specs.declared.firmware.efi.EfiBits.{EfiBits}
use Rattle.bl_map.specs.declared.firmware.efi.EfiBits.TheVariants.{Efi32, Efi64}
use Rattle.bl_map.specs.FirmwareLimits.{efi_fault, is_system_table, are_descriptors}
use Rattle.bl_map.specs.FirmwareLimits.{is_efi_map_size}
use Rattle.bl_params.specs.EfiInfo.{efi_signature, efi_in, efi_of, breaks_efi, breaks_efi_info}
use Rattle.bl_params.specs.EfiInfo.{has_efi_signature, has_efi_systab, has_efi_memmap}
use Rattle.bl_params.specs.EfiInfo.{has_efi_memmap_size}
use Rattle.bl_params.proofs.LimitLemmas.{IsSoundEfi, no_efi_fault, holds, eq_from}
use Rattle.bl_params.proofs.EfiLemmas as efi

drop_index : (xs : List ℕ) (at i : ℕ) → slice_index (drop at xs) i ≡ slice_index xs (at + i)
drop_index xs at i = search (rules, places)

u32_small : (bytes : List ℕ) (at : ℕ) → ((k : ℕ) → slice_index bytes k < 256)
    → u32_at bytes at < 2 ^ 32
unfolding number_at
u32_small bytes at small =
    little_from-lt 0 4 (drop at bytes) (λ k.
    subst (λ (b : ℕ). b < 256) (sym (drop_index bytes at k)) (small (at + k)))

low_table : (low high : ℕ) → low < 2 ^ 32 → (high == 0) ≡ true → not (low == 0 && high == 0) ≡ true
    → is_system_table Efi32 (low + 2 ^ 32 * high) ≡ true
low_table low high small none told = grind (arith, nat_tests)

any_table : (low high : ℕ) → low < 2 ^ 32 → high < 2 ^ 32 → not (low == 0 && high == 0) ≡ true
    → is_system_table Efi64 (low + 2 ^ 32 * high) ≡ true
any_table low high small low_high told = grind (arith, nat_tests)

-- with the signature of 32 bits there is no high half
no_high : (sign high : ℕ) → sign ≡ 0x32334C45
    → (sign == 0x32334C45 && high == 0 || sign == 0x34364C45) ≡ true → (high == 0) ≡ true
no_high sign high is told = grind (arith, nat_tests)

not_zero : (bits : EfiBits) (sign : ℕ) → sign ≡ efi_signature bits → (sign == 0) ≡ false
not_zero Efi32 sign is = rw is refl
not_zero Efi64 sign is = rw is refl

efi_form_is : (bytes : List ℕ) (k : ℕ) → (u32_at bytes 0x1C0 == 0) ≡ false
    → breaks_efi_info bytes k ≡ breaks_efi bytes k
unfolding breaks_efi_info
efi_form_is bytes k told = rw told refl

module _ (bytes : List ℕ) (small : (k : ℕ) → slice_index bytes k < 256) (bits : EfiBits)
    (is : u32_at bytes 0x1C0 ≡ efi_signature bits)
    (sound : (k : ℕ) → 0x1C0 ≤ k → k < 0x1E0 → breaks_efi_info bytes k ≡ false) where
  efi_quiet : (k : ℕ) → 0x1C0 ≤ k → k < 0x1E0 → breaks_efi bytes k ≡ false
  efi_quiet k from below =
      sym (efi_form_is bytes k (not_zero bits (u32_at bytes 0x1C0) is)) ∙ sound k from below

  signed : has_efi_signature bytes ≡ true
  signed =
      holds (has_efi_signature bytes)
      (sym (efi.signature_here bytes) ∙ efi_quiet 0x1C0 (omega arith) (omega arith))

  systab : has_efi_systab bytes ≡ true
  systab =
      holds (has_efi_systab bytes)
      (sym (efi.systab_here bytes) ∙ efi_quiet 0x1D8 (omega arith) (omega arith))

  size : has_efi_memmap_size bytes ≡ true
  size =
      holds (has_efi_memmap_size bytes)
      (sym (efi.size_here bytes) ∙ efi_quiet 0x1D4 (omega arith) (omega arith))

  memmap : has_efi_memmap bytes ≡ true
  memmap =
      holds (has_efi_memmap bytes)
      (sym (efi.memmap_here bytes) ∙ efi_quiet 0x1D0 (omega arith) (omega arith))

  each : are_descriptors (u32_at bytes 0x1C8) 1 ≡ true
  each =
      holds (are_descriptors (u32_at bytes 0x1C8) 1)
      (sym (efi.each_here bytes) ∙ efi_quiet 0x1C8 (omega arith) (omega arith))

  version : u32_at bytes 0x1CC ≡ 1
  version =
      eq_from (u32_at bytes 0x1CC) 1
      (holds (u32_at bytes 0x1CC == 1)
      (sym (efi.version_here bytes) ∙ efi_quiet 0x1CC (omega arith) (omega arith)))

  table_by : (b : EfiBits) → u32_at bytes 0x1C0 ≡ efi_signature b
      → is_system_table b (u32_at bytes 0x1C4 + 2 ^ 32 * u32_at bytes 0x1D8) ≡ true
  table_by Efi32 sign =
      low_table (u32_at bytes 0x1C4) (u32_at bytes 0x1D8) (u32_small bytes 0x1C4 small)
      (no_high (u32_at bytes 0x1C0) (u32_at bytes 0x1D8) sign signed) systab
  table_by Efi64 sign =
      any_table (u32_at bytes 0x1C4) (u32_at bytes 0x1D8) (u32_small bytes 0x1C4 small)
      (u32_small bytes 0x1D8 small) systab

  sound_efi : IsSoundEfi (efi_in bytes bits)
  unfolding efi_in
  sound_efi =
      let sizes =
      and_parts (is_efi_map_size (u32_at bytes 0x1C8) (u32_at bytes 0x1D4))
      (nat_le (u32_at bytes 0x1D0 + u32_at bytes 0x1D4) (2 ^ 32)) size in
      record {
        table = table_by bits is;
        descriptors =
            ap (λ (v : ℕ). are_descriptors (u32_at bytes 0x1C8) v) version ∙ each;
        size = sizes.0;
        place = rw (memmap, sizes.1) refl;
      }

  no_fault : efi_fault (efi_in bytes bits) ≡ None
  no_fault = no_efi_fault (efi_in bytes bits) sound_efi

efi_by : (bytes : List ℕ) (first second : Bool) → ((k : ℕ) → slice_index bytes k < 256)
    → (u32_at bytes 0x1C0 == efi_signature Efi32) ≡ first
    → (u32_at bytes 0x1C0 == efi_signature Efi64) ≡ second
    → ((k : ℕ) → 0x1C0 ≤ k → k < 0x1E0 → breaks_efi_info bytes k ≡ false)
    → IfSome (if first then Some (efi_in bytes Efi32) else
    if second then Some (efi_in bytes Efi64) else None) (λ e. efi_fault e ≡ None)
efi_by bytes true second small a b sound =
    no_fault bytes small Efi32 (eq_from (u32_at bytes 0x1C0) (efi_signature Efi32) a) sound
efi_by bytes false true small a b sound =
    no_fault bytes small Efi64 (eq_from (u32_at bytes 0x1C0) (efi_signature Efi64) b) sound
efi_by bytes false false small a b sound = tt

pub sound_told_efi : (bytes : List ℕ) → ((k : ℕ) → slice_index bytes k < 256)
    → ((k : ℕ) → 0x1C0 ≤ k → k < 0x1E0 → breaks_efi_info bytes k ≡ false)
    → IfSome (efi_of bytes) (λ e. efi_fault e ≡ None)
unfolding efi_of
sound_told_efi bytes small sound =
    efi_by bytes (u32_at bytes 0x1C0 == efi_signature Efi32)
    (u32_at bytes 0x1C0 == efi_signature Efi64) small refl refl sound
