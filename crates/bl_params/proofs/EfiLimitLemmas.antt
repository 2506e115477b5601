-- What the limits of UEFI say of its numbers.
use Rattle.std.proofs.Common.{◌≡◌, ◌+◌, ◌%◌, ◌<◌, ◌≤◌, ◌^◌, ℕ, true, false, not}
use Rattle.std.proofs.Common.{◌&&◌, nat_lt, nat_le, Some, arith, refl}
use Rattle.std.specs.Prelude.{◌==◌}
use Rattle.std.proofs.lemmas.Bool.{and_parts}
use Rattle.std.proofs.lemmas.Bool.Decides.{nat_tests}
use Rattle.bl_map.specs.declared.firmware.efi.EfiBits.{EfiBits}
use Rattle.bl_map.specs.declared.firmware.efi.EfiBits.TheVariants.{Efi32, Efi64}
use Rattle.bl_map.specs.declared.firmware.efi.EfiInfo.{EfiInfo}
use Rattle.bl_map.specs.declared.firmware.efi.SecureBoot.{SecureBoot}
use Rattle.bl_map.specs.declared.firmware.efi.SecureBoot.TheVariants.{Unset, Unknown}
use Rattle.bl_map.specs.declared.firmware.efi.SecureBoot.TheVariants.{Disabled, Enabled}
use Rattle.bl_map.specs.FirmwareLimits.{is_system_table}
use Rattle.bl_map.specs.FirmwareNumbers.{secure_boot_number, secure_boot_of}
use Rattle.bl_params.specs.FieldBytes.{low_half, high_half}
use Rattle.bl_params.specs.EfiInfo.{efi_signature}
use Rattle.bl_params.proofs.LimitLemmas.{IsSoundEfi, le_from, lt_from, eq_from}

pub signature_small : (bits : EfiBits) → efi_signature bits < 2 ^ 32
signature_small Efi32 = omega arith
signature_small Efi64 = omega arith

pub secure_boot_back : (secure : SecureBoot)
    → secure_boot_of (secure_boot_number secure) ≡ Some secure
unfolding secure_boot_of
secure_boot_back Unset = refl
secure_boot_back Unknown = refl
secure_boot_back Disabled = refl
secure_boot_back Enabled = refl

pub secure_boot_small : (secure : SecureBoot) → nat_lt 3 (secure_boot_number secure) ≡ false
secure_boot_small Unset = refl
secure_boot_small Unknown = refl
secure_boot_small Disabled = refl
secure_boot_small Enabled = refl

pub secure_boot_few : (secure : SecureBoot) → secure_boot_number secure ≤ 3
secure_boot_few Unset = omega arith
secure_boot_few Unknown = omega arith
secure_boot_few Disabled = omega arith
secure_boot_few Enabled = omega arith

-- the numbers of UEFI, within their limits
pub record AreSmall (efi : EfiInfo) : Type 0 where
  pub table : 1 ≤ efi.system_table
  pub each : efi.descriptor_size ≤ efi.map_size
  pub version : efi.descriptor_version ≡ 1
  pub size : efi.map_size ≤ 0x10000
  pub address : 1 ≤ efi.map_address
  pub end : efi.map_address + efi.map_size ≤ 2 ^ 32
  pub least : 40 ≤ efi.descriptor_size

table_told : (bits : EfiBits) (a : ℕ) → is_system_table bits a ≡ true → 1 ≤ a
table_told Efi32 a test = le_from 1 a (and_parts (nat_le 1 a) _ test).0
table_told Efi64 a test = le_from 1 a (and_parts (nat_le 1 a) _ test).0

pub table_fits : (bits : EfiBits) (a : ℕ) → is_system_table bits a ≡ true → a < 2 ^ 64
table_fits Efi32 a test =
    let below = lt_from a (2 ^ 32) (and_parts (nat_le 1 a) (nat_lt a (2 ^ 32)) test).1 in
    omega arith
table_fits Efi64 a test = lt_from a (2 ^ 64) (and_parts (nat_le 1 a) (nat_lt a (2 ^ 64)) test).1

pub are_small : (efi : EfiInfo) → IsSoundEfi efi → AreSmall efi
are_small efi is =
    let d = efi.descriptor_size in
    let n = efi.map_size in
    let a = efi.map_address in
    let each = and_parts (nat_le 40 d && d % 8 == 0) (efi.descriptor_version == 1) is.descriptors in
    let least = and_parts (nat_le 40 d) (d % 8 == 0) each.0 in
    let size = and_parts (nat_le 1 d && nat_le d n && n % d == 0) (nat_le n 0x10000) is.size in
    let whole = and_parts (nat_le 1 d && nat_le d n) (n % d == 0) size.0 in
    let some = and_parts (nat_le 1 d) (nat_le d n) whole.0 in
    let place = and_parts (nat_le 1 a && a % 8 == 0) (nat_le (a + n) (2 ^ 32)) is.place in
    let told = and_parts (nat_le 1 a) (a % 8 == 0) place.0 in
    record {
      table = table_told efi.bits efi.system_table is.table;
      each = le_from d n some.1;
      version = eq_from efi.descriptor_version 1 each.1;
      size = le_from n 0x10000 size.1;
      address = le_from 1 a told.0;
      end = le_from (a + n) (2 ^ 32) place.1;
      least = le_from 40 d least.0;
    }

-- with 32 bits the high half of the system table's address is 0
pub low_table : (bits : EfiBits) (a : ℕ) → is_system_table bits a ≡ true → bits ≡ Efi32
    → high_half a ≡ 0
low_table Efi32 a test same =
    let both = and_parts (nat_le 1 a) (nat_lt a (2 ^ 32)) test in
    let below : a < 2 ^ 32 = lt_from a (2 ^ 32) both.1 in
    omega arith
low_table Efi64 a test same = cc

-- one of the halves is not 0
pub halves : (a : ℕ) → 1 ≤ a → not (low_half a == 0 && high_half a == 0) ≡ true
halves a told = grind (arith, nat_tests)
