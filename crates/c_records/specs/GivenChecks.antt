-- What C may not give, in the order of these lines. Own.
use Rattle.std.specs.Prelude.{ℕ, Bool, true, ◌&&◌, ◌||◌, not, nat_le, ◌==◌, if◌then◌else◌, Option}
use Rattle.std.specs.Prelude.{Some, None, List, [], ◌∷◌, length, ◌≡◌, Result, MatchResult}
use Rattle.std.specs.List.{list_all}
use Rattle.std.specs.Option.{option_or}
use Rattle.bl_plan.specs.MenuLimits.{max_modules}
use Rattle.c_records.specs.declared.firmware_records.EfiRecord.{EfiRecord}
use Rattle.c_records.specs.declared.given_records.MachineRecord.{MachineRecord}
use Rattle.c_records.specs.declared.given_records.RegionRecord.{RegionRecord}
use Rattle.c_records.specs.declared.given_records.EntryRecord.{EntryRecord}
use Rattle.c_records.specs.declared.misuse.Misuse.{Misuse}
use Rattle.c_records.specs.declared.misuse.Misuse.TheVariants.{BadKind, BadEfiBits, BadSecureBoot}
use Rattle.c_records.specs.declared.misuse.Misuse.TheVariants.{BadProtocol}

-- the number of a kind of memory
abbrev pub is_kind : ℕ → Bool
is_kind kind = nat_le 1 kind && nat_le kind 5

-- each region is of a kind
abbrev pub have_kinds : List RegionRecord → Bool
have_kinds regions = list_all (λ region. is_kind region.kind) regions

-- the number of UEFI's bits, and that of the state of secure boot; without a system table no UEFI
-- is told
abbrev pub has_efi_bits : EfiRecord → Bool
has_efi_bits efi = (efi.system_table == 0) || (efi.bits == 32) || (efi.bits == 64)

abbrev pub has_secure_boot : EfiRecord → Bool
has_secure_boot efi = (efi.system_table == 0) || nat_le efi.secure_boot 3

-- the first misuse of a machine's numbers
unfoldable pub machine_misuse : MachineRecord → Option Misuse
machine_misuse machine =
    if not (have_kinds machine.regions.now) then Some BadKind else
    if not (has_efi_bits machine.firmware.now.efi) then Some BadEfiBits else
    if not (has_secure_boot machine.firmware.now.efi) then Some BadSecureBoot else
    None

-- the number of a protocol
abbrev pub is_protocol : ℕ → Bool
is_protocol protocol = nat_le 1 protocol && nat_le protocol 3

-- the misuse of an entry, but for its size
unfoldable pub entry_misuse : EntryRecord → Option Misuse
entry_misuse entry = if not (is_protocol entry.protocol) then Some BadProtocol else None

-- the first misuse of entries, one after the other
abbrev pub entries_misuse : List EntryRecord → Option Misuse
entries_misuse [] = None
entries_misuse (entry ∷ entries) = option_or (entry_misuse entry) (entries_misuse entries)

-- of its modules there are not too many; an entry of another protocol than 1 has none
abbrev pub are_modules_few : EntryRecord → Bool
are_modules_few entry =
    if entry.protocol == 1 then nat_le (length entry.modules.now) max_modules else true

-- so of each of these
abbrev pub have_few_modules : List EntryRecord → Bool
have_few_modules entries = list_all are_modules_few entries

-- a check answers this misuse, if it is one
abbrev pub FindsMisuse : {X : Type 0} → Option Misuse → Result X Misuse → Type 0
FindsMisuse misuse result = MatchResult result (λ _. misuse ≡ None) (λ found. misuse ≡ Some found)
