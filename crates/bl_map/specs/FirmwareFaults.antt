-- What refuses a machine for what firmware tells of it. Own.
use Rattle.std.specs.Prelude.{◌≡◌, ◌+◌, ◌≤◌, ◌<◌, ◌⊎◌, ℕ, List, length, take, All, slice_get}
use Rattle.std.specs.Prelude.{Option, Some, None, IfSome, IsSomeAnd}
use Rattle.std.specs.declared.ops.Range.{Range}
use Rattle.bl_map.specs.Faults.{HasFirstMapFault, IsAccepted}
use Rattle.bl_map.specs.Firmware.{FirmwareFacts, EfiFacts, SmbiosFacts, efi_info}
use Rattle.bl_map.specs.FirmwareLimits.{screen_fault, screen_end, machine_efi_fault}
use Rattle.bl_map.specs.FirmwareLimits.{max_avoided}
use Rattle.bl_map.specs.MachineFacts.{AreUnusable, IsScreen, IsRsdp, IsEfi, IsSmbios, IsAvoidable}
use Rattle.bl_map.specs.MachineFacts.{MissesPool}
use Rattle.bl_map.specs.declared.fault.MapFault.{MapFault}
use Rattle.bl_map.specs.declared.fault.MapFault.TheVariants.{BadScreenPlace, BadRsdp}
use Rattle.bl_map.specs.declared.fault.MapFault.TheVariants.{BadEfiMapPlace, BadSmbiosSize}
use Rattle.bl_map.specs.declared.fault.MapFault.TheVariants.{TooManyAvoided, BadAvoided}
use Rattle.bl_map.specs.declared.fault.MapFault.TheVariants.{PoolAvoided}
use Rattle.bl_map.specs.declared.firmware.screen.Screen.{Screen}
use Rattle.bl_map.specs.declared.region.Region.{Region}

-- the fault of the first limit that is broken; if none is, that of the place, where it meets usable
-- bytes
abbrev pub HasPlacedFault : Option MapFault → MapFault → Type 0 → MapFault → Type 0
HasPlacedFault (Some broken) place IsApart fault = fault ≡ broken
HasPlacedFault None place IsApart fault = (¬ IsApart) × (fault ≡ place)

abbrev pub HasScreenFault : List Region → Screen → MapFault → Type 0
HasScreenFault regions screen fault =
    HasPlacedFault (screen_fault screen) BadScreenPlace
    (AreUnusable regions screen.base (screen_end screen)) fault

abbrev pub HasRsdpFault : List Region → ℕ → MapFault → Type 0
HasRsdpFault regions a fault = (¬ IsRsdp regions a) × (fault ≡ BadRsdp)

abbrev pub HasEfiFault : List Region → EfiFacts → MapFault → Type 0
HasEfiFault regions efi fault =
    HasPlacedFault (machine_efi_fault (efi_info efi)) BadEfiMapPlace
    (AreUnusable regions efi.map_address (efi.map_address + length efi.map)) fault

abbrev pub HasSmbiosFault : SmbiosFacts → MapFault → Type 0
HasSmbiosFault smbios fault = (¬ IsSmbios smbios) × (fault ≡ BadSmbiosSize)

-- the first fault of avoided ranges, in the order of these lines
abbrev pub HasAvoidedFault : Range ℕ → List (Range ℕ) → MapFault → Type 0
HasAvoidedFault pool avoided TooManyAvoided = max_avoided < length avoided
HasAvoidedFault pool avoided (BadAvoided i) =
    (length avoided ≤ max_avoided) × (i < length avoided) × All IsAvoidable (take i avoided)
    × IfSome (slice_get avoided i) (λ range. ¬ IsAvoidable range)
HasAvoidedFault pool avoided PoolAvoided =
    (length avoided ≤ max_avoided) × All IsAvoidable avoided × (¬ All (MissesPool pool) avoided)
HasAvoidedFault pool avoided fault = ⊥

-- what may be missing is told and has the fault; or it is missing or sound, and the rest has it
abbrev pub HasFaultThen : {T : Type 0} → Option T → (T → Type 0) → (T → MapFault → Type 0)
    → (MapFault → Type 0) → MapFault → Type 0
HasFaultThen told IsSound HasFault RestHas fault =
    IsSomeAnd told (λ x. HasFault x fault) ⊎ (IfSome told IsSound × RestHas fault)

-- the first fault of what firmware tells, in the order of these lines
abbrev pub HasFirmwareFault :
    List Region → Range ℕ → FirmwareFacts → MapFault → Type 0
HasFirmwareFault regions pool firmware fault =
    HasFaultThen firmware.screen (IsScreen regions) (HasScreenFault regions)
    (HasFaultThen firmware.rsdp (IsRsdp regions) (HasRsdpFault regions)
    (HasFaultThen firmware.efi (IsEfi regions) (HasEfiFault regions)
    (HasFaultThen firmware.smbios IsSmbios HasSmbiosFault
    (HasAvoidedFault pool firmware.avoided)))) fault

-- the first fault of a machine and of what firmware tells of it
abbrev pub HasFirstMachineFault :
    ℕ → List Region → Range ℕ → FirmwareFacts → MapFault → Type 0
HasFirstMachineFault size regions pool firmware fault =
    HasFirstMapFault size regions pool fault
    ⊎ (IsAccepted size regions pool × HasFirmwareFault regions pool firmware fault)
