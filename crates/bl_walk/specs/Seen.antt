-- What a kernel sees that follows the addresses in its registers (Multiboot2 3.3 "I386 machine
-- state", 3.6 "Boot information format"; Linux/x86 boot protocol, "32-bit Boot Protocol", "Details
-- of Header Fields").
use Rattle.std.specs.Prelude.{◌≡◌, ◌-◌, ◌<◌, ◌≤◌, ◌^◌, ◌⊎◌, ℕ, List, [], ◌∷◌, length, map, take}
use Rattle.std.specs.Prelude.{◌==◌, true, Option, Some, None, option_map}
use Rattle.std.specs.List.{filter, position}
use Rattle.bl_mem.specs.LittleEndian.{u32_at}
use Rattle.bl_mbi.specs.InfoToWriteFacts.{InfoToWriteFacts, ModuleInfo}
use Rattle.bl_mbi.specs.InfoFacts.{InfoFacts, IsSpelling}
use Rattle.bl_params.specs.ParamsFacts.{ParamsFacts}
use Rattle.bl_params.specs.Reading.{IsParams}
use Rattle.bl_plan.specs.declared.protocol.Protocol.TheVariants.{Multiboot2}
use Rattle.bl_load.specs.Handover.{Part, Handover}
use Rattle.bl_load.specs.Protocols.{has_params}
use Rattle.bl_load.specs.Registers.{entry_in, information_in, params_in}
use Rattle.bl_walk.specs.declared.seen.SeenPart.{SeenPart}
use Rattle.bl_walk.specs.PartBytes.{bytes_in, rest_in}
use Rattle.bl_walk.specs.State.{is_kernel}
use Rattle.bl_walk.specs.SeenFacts.{SeenModuleFacts, SeenFileFacts, SeenFirmwareFacts, SeenFacts}
use Rattle.bl_mbi.specs.Size.{min_info_size}
use Rattle.bl_params.specs.SizesAndOffsets.{params_size}

-- the parts of the kernel, by address and length
abbrev pub kernel_in : List Part → List SeenPart
kernel_in parts =
    map (λ part. record { address = part.address; length = length part.bytes })
    (filter is_kernel parts)

-- ---- Multiboot2

-- the word at the information's address (3.3: ebx; 3.6 "Boot information format": total_size)
pub record HasTotalSize (h : Handover) (size : ℕ) : Type 0 where
  pub protocol : h.protocol ≡ Multiboot2
  pub word : List ℕ
  pub whole : bytes_in h.parts (information_in h.registers) 4 ≡ Some word
  pub told : size ≡ u32_at word 0
  pub small : size < 2 ^ 32

-- the information's bytes: as many from that address on, and at least the fixed part and the tag
-- that ends it
pub record IsInformation (h : Handover) (bytes : List ℕ) : Type 0 where
  pub size : ℕ
  pub total_size : HasTotalSize h size
  pub least : min_info_size ≤ size
  pub whole : bytes_in h.parts (information_in h.registers) size ≡ Some bytes

-- what it says
pub record HasInformation (h : Handover) (info : InfoFacts) : Type 0 where
  pub bytes : List ℕ
  pub information : IsInformation h bytes
  pub spelling : IsSpelling bytes info

-- a module as it is told of (3.6.6 "Modules"): its bytes reach from mod_start to mod_end
pub record IsSeenModule (parts : List Part) (m : ModuleInfo) (seen : SeenModuleFacts) : Type 0 where
  pub start : seen.mod_start ≡ m.mod_start
  pub bytes : bytes_in parts m.mod_start (m.mod_end - m.mod_start) ≡ Some seen.bytes
  pub line : seen.line ≡ m.line

-- each of them, in order
abbrev pub AreSeenModules : List Part → List ModuleInfo → List SeenModuleFacts → Type 0
AreSeenModules parts [] [] = Unit {0}
AreSeenModules parts [] (seen ∷ more) = ⊥
AreSeenModules parts (m ∷ modules) [] = ⊥
AreSeenModules parts (m ∷ modules) (seen ∷ more) =
    IsSeenModule parts m seen × AreSeenModules parts modules more

-- what it tells of firmware
abbrev pub firmware_in_information : InfoToWriteFacts → SeenFirmwareFacts
firmware_in_information facts = record {
  screen = facts.screen;
  rsdp = None;
  efi_info = None;
  efi_tables = facts.efi;
  smbios = facts.smbios;
}

-- what the information shows
pub record InformationShows (h : Handover) (seen : SeenFacts) : Type 0 where
  pub info : InfoFacts
  pub says : HasInformation h info
  pub line : seen.line ≡ info.facts.line
  pub modules : AreSeenModules h.parts info.facts.modules seen.modules
  pub initrd : seen.initrd ≡ None
  pub runs : seen.map ≡ info.facts.runs
  pub rsdp_old : seen.rsdp_old ≡ info.facts.rsdp_old
  pub rsdp_new : seen.rsdp_new ≡ info.facts.rsdp_new
  pub firmware : seen.firmware ≡ firmware_in_information info.facts

-- ---- Linux

-- the bytes of the boot parameters, where a kernel is handed them
pub record AreParameters (h : Handover) (bytes : List ℕ) : Type 0 where
  pub handed : has_params h.protocol ≡ true
  pub whole : bytes_in h.parts (params_in h.registers) params_size ≡ Some bytes

-- their numbers
pub record HasParameters (h : Handover) (params : ParamsFacts) : Type 0 where
  pub bytes : List ℕ
  pub parameters : AreParameters h bytes
  pub told : IsParams bytes params

-- a text up to its zero, None where there is none
unfoldable pub text_to_zero : List ℕ → Option (List ℕ)
text_to_zero bytes = option_map (λ count. take count bytes) (position (λ b. b == 0) bytes)

-- "cmd_line_ptr"
pub record IsLine (parts : List Part) (address : ℕ) (line : List ℕ) : Type 0 where
  pub rest : List ℕ
  pub from : rest_in parts address ≡ Some rest
  pub text : text_to_zero rest ≡ Some line

-- "ramdisk_image", "ramdisk_size": a size of 0 is none
abbrev pub IsInitrd : List Part → ParamsFacts → Option SeenFileFacts → Type 0
IsInitrd parts params None = params.ramdisk_size ≡ 0
IsInitrd parts params (Some file) =
    (1 ≤ params.ramdisk_size) × (file.address ≡ params.ramdisk_image)
    × (bytes_in parts params.ramdisk_image params.ramdisk_size ≡ Some file.bytes)

-- what they tell of firmware
abbrev pub firmware_in_parameters : ParamsFacts → SeenFirmwareFacts
firmware_in_parameters params = record {
  screen = params.screen;
  rsdp = params.rsdp;
  efi_info = params.efi;
  efi_tables = None;
  smbios = None;
}

-- what the boot parameters show
pub record ParametersShow (h : Handover) (seen : SeenFacts) : Type 0 where
  pub params : ParamsFacts
  pub say : HasParameters h params
  pub line : IsLine h.parts params.cmd_line_ptr seen.line
  pub modules : seen.modules ≡ []
  pub initrd : IsInitrd h.parts params seen.initrd
  pub runs : seen.map ≡ params.runs
  pub rsdp_old : seen.rsdp_old ≡ None
  pub rsdp_new : seen.rsdp_new ≡ None
  pub firmware : seen.firmware ≡ firmware_in_parameters params

-- ---- both

pub record IsSeen (h : Handover) (seen : SeenFacts) : Type 0 where
  pub protocol : seen.protocol ≡ h.protocol
  pub entry : seen.entry ≡ entry_in h.registers
  pub kernel : seen.kernel ≡ kernel_in h.parts
  pub shown : InformationShows h seen ⊎ ParametersShow h seen
