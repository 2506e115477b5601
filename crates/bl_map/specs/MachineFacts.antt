-- What is known of a machine, and which of its bytes are usable. Own.
use Rattle.std.specs.Prelude.{◌≡◌, ◌≢◌, ◌+◌, ◌%◌, ◌<◌, ◌≤◌, ℕ, List, length, All, IfSome, None}
use Rattle.std.specs.Prelude.{true}
use Rattle.std.specs.declared.ops.Range.{Range}
use Rattle.bl_map.specs.declared.region.Region.{Region}
use Rattle.bl_map.specs.Limits.{frame_size, min_size, max_size, first_usable, usable_limit}
use Rattle.bl_map.specs.Limits.{max_runs, max_region_end}
use Rattle.bl_map.specs.NormalMap.{kind_at, AreRuns}
use Rattle.bl_map.specs.declared.firmware.screen.Screen.{Screen}
use Rattle.bl_map.specs.Firmware.{FirmwareFacts, EfiFacts, SmbiosFacts, efi_info}
use Rattle.bl_map.specs.Firmware.{FitsFirmwareFields}
use Rattle.bl_map.specs.FirmwareLimits.{screen_fault, screen_end, rsdp_length}
use Rattle.bl_map.specs.FirmwareLimits.{machine_efi_fault, is_smbios_size, max_avoided}

-- a machine's facts: its size, its normal map, its pool, what firmware tells beside them
pub record MachineFacts : Type 0 where
  pub size : ℕ
  pub runs : List Region
  pub pool : Range ℕ
  pub firmware : FirmwareFacts

-- in a machine of this size, whose addresses have the kinds that these regions give them, a part
-- may lie on this byte
pub record IsUsableAmong (regions : List Region) (size a : ℕ) : Type 0 where
  pub kind : kind_at regions a ≡ 1
  pub above : first_usable ≤ a
  pub in_size : a < size
  pub below : a < usable_limit

abbrev pub IsUsable : MachineFacts → ℕ → Type 0
IsUsable facts a = IsUsableAmong facts.runs facts.size a

-- each byte from start up to end is usable
abbrev pub AllUsable : MachineFacts → ℕ → ℕ → Type 0
AllUsable facts start end = (a : ℕ) → start ≤ a → a < end → IsUsable facts a

-- 1 MiB to 4 GiB, in whole frames
pub record IsSize (size : ℕ) : Type 0 where
  pub least : min_size ≤ size
  pub most : size ≤ max_size
  pub frames : size % frame_size ≡ 0

-- whole frames, perhaps none, of which each byte is usable
pub record IsPool (regions : List Region) (size : ℕ) (pool : Range ℕ) : Type 0 where
  pub forward : pool.start ≤ pool.end
  pub start_frame : pool.start % frame_size ≡ 0
  pub end_frame : pool.end % frame_size ≡ 0
  pub usable : (a : ℕ) → pool.start ≤ a → a < pool.end → IsUsableAmong regions size a

-- no kernel is told that one of these bytes is usable memory, whatever the machine's size: so no
-- part lies on them, nor what a kernel lays into its memory
abbrev pub AreUnusable : List Region → ℕ → ℕ → Type 0
AreUnusable regions start end = (a : ℕ) → start ≤ a → a < end → kind_at regions a ≢ 1

-- a screen within its limits, whose memory is not usable
pub record IsScreen (regions : List Region) (screen : Screen) : Type 0 where
  pub sound : screen_fault screen ≡ None
  pub apart : AreUnusable regions screen.base (screen_end screen)

-- the address of an ACPI root pointer that ends at 2^52 at most and is not usable
pub record IsRsdp (regions : List Region) (a : ℕ) : Type 0 where
  pub told : 1 ≤ a
  pub low : a + rsdp_length ≤ max_region_end
  pub apart : AreUnusable regions a (a + rsdp_length)

-- UEFI within its limits, whose system table ends at 2^52 at most; its memory map is not usable
pub record IsEfi (regions : List Region) (efi : EfiFacts) : Type 0 where
  pub sound : machine_efi_fault (efi_info efi) ≡ None
  pub apart : AreUnusable regions efi.map_address (efi.map_address + length efi.map)

-- tables of SMBIOS that can be told
abbrev pub IsSmbios : SmbiosFacts → Type 0
IsSmbios smbios = is_smbios_size (length smbios.tables) ≡ true

-- a range that goes forward and ends at 2^52 at most
pub record IsAvoidable (range : Range ℕ) : Type 0 where
  pub forward : range.start ≤ range.end
  pub low : range.end ≤ max_region_end

-- this address lies in the range
abbrev pub IsWithin : Range ℕ → ℕ → Type 0
IsWithin range a = (range.start ≤ a) × (a < range.end)

-- no byte of the pool is avoided
abbrev pub MissesPool : Range ℕ → Range ℕ → Type 0
MissesPool pool range = (a : ℕ) → IsWithin pool a → IsWithin range a → ⊥

-- ranges that can be avoided, which leave the pool alone
pub record AreAvoided (pool : Range ℕ) (avoided : List (Range ℕ)) : Type 0 where
  pub few : length avoided ≤ max_avoided
  pub avoidable : All IsAvoidable avoided
  pub apart : All (MissesPool pool) avoided

-- what firmware tells is within its limits
pub record IsFirmware (regions : List Region) (pool : Range ℕ) (firmware : FirmwareFacts) :
    Type 0 where
  pub screen : IfSome firmware.screen (IsScreen regions)
  pub rsdp : IfSome firmware.rsdp (IsRsdp regions)
  pub efi : IfSome firmware.efi (IsEfi regions)
  pub smbios : IfSome firmware.smbios IsSmbios
  pub avoided : AreAvoided pool firmware.avoided

-- what holds of each machine's facts
pub record IsWellFormedMachine (facts : MachineFacts) : Type 0 where
  pub size : IsSize facts.size
  pub runs : AreRuns facts.runs
  pub few : length facts.runs ≤ max_runs
  pub pool : IsPool facts.runs facts.size facts.pool
  pub firmware : IsFirmware facts.runs facts.pool facts.firmware
  pub fits : FitsFirmwareFields facts.firmware
