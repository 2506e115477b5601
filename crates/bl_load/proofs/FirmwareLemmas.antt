-- What a machine's firmware tells has the limits that writers ask for, and few bytes.
use Rattle.std.proofs.Common.{◌≡◌, ◌≤◌, ℕ, Bool, true, false, not, if◌then◌else◌, List}
use Rattle.std.proofs.Common.{length, Option, Some, None, IfSome, refl, ap, arith}
use Rattle.std.specs.Prelude.{option_map}
use Rattle.std.proofs.lemmas.Bool.Decides.{nat_tests}
use Rattle.bl_map.specs.Firmware.{EfiFacts, SmbiosFacts, FirmwareFacts, efi_info, FitsEfiFields}
use Rattle.bl_map.specs.Firmware.{FitsSmbiosFields}
use Rattle.bl_map.specs.FirmwareLimits.{efi_fault, is_system_table, are_descriptors}
use Rattle.bl_map.specs.FirmwareLimits.{is_efi_map_size}
use Rattle.bl_map.specs.MachineFacts.{MachineFacts, IsWellFormedMachine, IsScreen, IsRsdp, IsEfi}
use Rattle.bl_map.specs.MachineFacts.{IsSmbios}
use Rattle.bl_map.specs.declared.fault.MapFault.{MapFault}
use Rattle.bl_map.specs.declared.firmware.efi.EfiInfo.{EfiInfo}
use Rattle.bl_map.specs.declared.firmware.screen.Screen.{Screen}
use Rattle.bl_map.specs.declared.region.Region.{Region}
use Rattle.bl_map.proofs.FirmwareLemmas.{machine_efi_is_sound}
use Rattle.bl_mbi.specs.InfoToWriteFacts.{efi_tables, IsToldScreen, IsToldEfi}
use Rattle.bl_mbi.specs.InfoToWriteFacts.{IsToldSmbios}

-- a limit is kept where no fault stands, and so is the rest
kept : (limit : Bool) (broken : MapFault) (rest : Option MapFault)
    → (if not limit then Some broken else rest) ≡ None → (limit ≡ true) × (rest ≡ None)
kept true broken rest sound = (refl, sound)
kept false broken rest sound = absurd cc

efi_limits : (efi : EfiInfo) → efi_fault efi ≡ None
    → (is_system_table efi.bits efi.system_table ≡ true)
    × (are_descriptors efi.descriptor_size efi.descriptor_version ≡ true)
    × (is_efi_map_size efi.descriptor_size efi.map_size ≡ true)
unfolding efi_fault
efi_limits efi sound =
    let table = kept (is_system_table efi.bits efi.system_table) _ _ sound in
    let descriptors = kept (are_descriptors efi.descriptor_size efi.descriptor_version) _ _ table.1 in
    let size = kept (is_efi_map_size efi.descriptor_size efi.map_size) _ _ descriptors.1 in
    (table.0, descriptors.0, size.0)

-- ---- each kind

screen_told : (regions : List Region) (screen : Option Screen)
    → IfSome screen (IsScreen regions) → IfSome screen IsToldScreen
screen_told regions None is = tt
screen_told regions (Some s) is = is.sound

rsdp_told : (regions : List Region) (rsdp : Option ℕ)
    → IfSome rsdp (IsRsdp regions) → IfSome rsdp (λ a. 1 ≤ a)
rsdp_told regions None is = tt
rsdp_told regions (Some a) is = is.told

efi_told : (regions : List Region) (efi : Option EfiFacts)
    → IfSome efi (IsEfi regions) → IfSome efi FitsEfiFields
    → IfSome (option_map efi_tables efi) IsToldEfi
efi_told regions None is fits = tt
efi_told regions (Some e) is fits =
    let limits = efi_limits (efi_info e) (machine_efi_is_sound (efi_info e) is.sound) in
    record {
      system_table = limits.0;
      descriptors = limits.1;
      size = limits.2;
      map = fits.map;
    }

info_told : (regions : List Region) (efi : Option EfiFacts)
    → IfSome efi (IsEfi regions) → IfSome (option_map efi_info efi) (λ e. efi_fault e ≡ None)
info_told regions None is = tt
info_told regions (Some e) is = machine_efi_is_sound (efi_info e) is.sound

smbios_told : (smbios : Option SmbiosFacts) → IfSome smbios IsSmbios
    → IfSome smbios FitsSmbiosFields → IfSome smbios IsToldSmbios
smbios_told None is fits = tt
smbios_told (Some s) is fits =
    record { size = is; fields = fits }

map_few : (regions : List Region) (efi : Option EfiFacts)
    → IfSome efi (IsEfi regions)
    → IfSome (option_map (λ told. length told.map) efi) (λ n. n ≤ 65536)
map_few regions None is = tt
map_few regions (Some e) is =
    let limit = (efi_limits (efi_info e) (machine_efi_is_sound (efi_info e) is.sound)).2 in grind (arith, nat_tests)

tables_few : (smbios : Option SmbiosFacts) → IfSome smbios IsSmbios
    → IfSome (option_map (λ told. length told.tables) smbios) (λ n. n ≤ 65536)
tables_few None is = tt
tables_few (Some s) is = grind (arith, nat_tests)

-- ---- equal firmware tells the same

pub told_screen : {f g : FirmwareFacts} → f ≡ g → f.screen ≡ g.screen
told_screen same = ap (λ (x : FirmwareFacts). x.screen) same

pub told_efi : {f g : FirmwareFacts} → f ≡ g → f.efi ≡ g.efi
told_efi same = ap (λ (x : FirmwareFacts). x.efi) same

pub told_smbios : {f g : FirmwareFacts} → f ≡ g → f.smbios ≡ g.smbios
told_smbios same = ap (λ (x : FirmwareFacts). x.smbios) same

-- ---- a machine's

module _ (facts : MachineFacts) (machine : IsWellFormedMachine facts) where
  pub machine_screen : IfSome facts.firmware.screen IsToldScreen
  machine_screen =
      screen_told facts.runs facts.firmware.screen machine.firmware.screen

  pub machine_rsdp : IfSome facts.firmware.rsdp (λ a. 1 ≤ a)
  machine_rsdp = rsdp_told facts.runs facts.firmware.rsdp machine.firmware.rsdp

  pub machine_efi : IfSome (option_map efi_tables facts.firmware.efi) IsToldEfi
  machine_efi =
      efi_told facts.runs facts.firmware.efi machine.firmware.efi machine.fits.efi

  pub machine_efi_info : IfSome (option_map efi_info facts.firmware.efi) (λ e. efi_fault e ≡ None)
  machine_efi_info = info_told facts.runs facts.firmware.efi machine.firmware.efi

  pub machine_smbios : IfSome facts.firmware.smbios IsToldSmbios
  machine_smbios = smbios_told facts.firmware.smbios machine.firmware.smbios machine.fits.smbios

  -- the memory map of UEFI and the tables of SMBIOS have at most 64 KiB each
  pub efi_map_few : IfSome (option_map (λ told. length told.map) facts.firmware.efi)
      (λ n. n ≤ 65536)
  efi_map_few = map_few facts.runs facts.firmware.efi machine.firmware.efi

  pub smbios_few : IfSome (option_map (λ told. length told.tables) facts.firmware.smbios)
      (λ n. n ≤ 65536)
  smbios_few = tables_few facts.firmware.smbios machine.firmware.smbios
