-- What an entry's own kernel sees. Own.
use Rattle.std.specs.Prelude.{◌≡◌, ◌<◌, ◌≤◌, ◌+◌, ℕ, List, [], ◌∷◌, length, map, slice_index_or}
use Rattle.std.specs.Prelude.{All, Option, Some, None, option_map}
use Rattle.bl_mem.specs.declared.segment.Segment.{Segment}
use Rattle.bl_map.specs.NormalMap.{region_end}
use Rattle.bl_map.specs.Limits.{max_region_end}
use Rattle.bl_map.specs.Firmware.{FirmwareFacts, efi_info}
use Rattle.bl_map.specs.MachineFacts.{MachineFacts}
use Rattle.bl_mb2head.specs.declared.relocation.Relocation.{Relocation}
use Rattle.bl_bzimage.specs.declared.setup.Setup.{Setup}
use Rattle.bl_bzimage.specs.Setup.{IsSetup}
use Rattle.bl_plan.specs.AddressOrder.{segments_in_order}
use Rattle.bl_plan.specs.declared.protocol.Protocol.{Protocol}
use Rattle.bl_plan.specs.declared.protocol.Protocol.TheVariants.{Multiboot2, Linux, Linux64}
use Rattle.bl_mbi.specs.InfoToWriteFacts.{efi_tables}
use Rattle.bl_load.specs.KernelBlock.{span_of}
use Rattle.bl_load.specs.Multiboot2Kernel.{Multiboot2KernelFacts, IsMultiboot2Kernel}
use Rattle.bl_load.specs.KernelReading.{has_screen}
use Rattle.bl_load.specs.LinuxKernel.{entry_64}
use Rattle.bl_load.specs.LinuxRows.{linux_kernel_row}
use Rattle.bl_load.specs.Parts.{entered_at}
use Rattle.bl_load.specs.EntryValue.{EntryValue, kernel_file, module_file, initrd_file}
use Rattle.bl_walk.specs.SeenFacts.{SeenFirmwareFacts, SeenFacts}
use Rattle.bl_walk.specs.declared.seen.SeenPart.{SeenPart}

-- ---- the kernel

abbrev pub segment_part : Segment → SeenPart
segment_part segment = record { address = segment.address; length = segment.memsz }

-- segments lie at their own addresses, and the kernel is entered at its own; with a relocatable
-- tag they are one block, which lies somewhere, and the entry moved with it
abbrev pub ShowsSegments : List Segment → ℕ → Option Relocation → SeenFacts → Type 0
ShowsSegments segments entry None seen =
    (seen.entry ≡ entry) × (seen.kernel ≡ map segment_part (segments_in_order segments))
ShowsSegments segments entry (Some r) seen =
    (base : ℕ) × (seen.entry ≡ entered_at entry segments (Some r) base)
    × (seen.kernel ≡ record { address = base; length = span_of segments } ∷ [])

-- a Linux kernel lies in one part, as long as its setup asks for, and is entered so many bytes
-- after the first one
pub record ShowsPayload (offset : ℕ) (setup : Setup) (seen : SeenFacts) : Type 0 where
  pub base : ℕ
  pub entry : seen.entry ≡ base + offset
  pub kernel :
      seen.kernel ≡ record { address = base; length = (linux_kernel_row setup).length } ∷ []

abbrev pub ShowsKernel : MachineFacts → EntryValue → SeenFacts → Protocol → Type 0
ShowsKernel facts value seen Multiboot2 =
    (kernel : Multiboot2KernelFacts)
    × IsMultiboot2Kernel (has_screen facts) (kernel_file value) kernel
    × ShowsSegments kernel.segments kernel.entry kernel.relocation seen
ShowsKernel facts value seen Linux =
    (setup : Setup) × IsSetup (kernel_file value) setup × ShowsPayload 0 setup seen
ShowsKernel facts value seen Linux64 =
    (setup : Setup) × IsSetup (kernel_file value) setup × ShowsPayload entry_64 setup seen

-- ---- its other files, and the copies of the RSDP

-- modules with the entry's lines and the bytes of its files, the entry's copies, and no initial
-- ramdisk
pub record ShowsModules (value : EntryValue) (seen : SeenFacts) : Type 0 where
  pub lines : map (λ m. m.line) seen.modules ≡ value.module_lines
  pub files : (k : ℕ) → k < length value.module_lines
      → slice_index_or (map (λ m. m.bytes) seen.modules) k [] ≡ module_file value.files k
  pub initrd : seen.initrd ≡ None
  pub rsdp_old : seen.rsdp_old ≡ value.rsdp_old
  pub rsdp_new : seen.rsdp_new ≡ value.rsdp_new

-- the bytes of a file, if it has any
abbrev pub some_bytes : List ℕ → Option (List ℕ)
some_bytes [] = None
some_bytes (byte ∷ bytes) = Some (byte ∷ bytes)

-- the bytes of the initial ramdisk's file, if it has any, no module and no copy
pub record ShowsRamdisk (value : EntryValue) (seen : SeenFacts) : Type 0 where
  pub modules : seen.modules ≡ []
  pub initrd : option_map (λ file. file.bytes) seen.initrd ≡ some_bytes (initrd_file value.files)
  pub rsdp_old : seen.rsdp_old ≡ None
  pub rsdp_new : seen.rsdp_new ≡ None

abbrev pub ShowsFiles : EntryValue → SeenFacts → Protocol → Type 0
ShowsFiles value seen Multiboot2 = ShowsModules value seen
ShowsFiles value seen Linux = ShowsRamdisk value seen
ShowsFiles value seen Linux64 = ShowsRamdisk value seen

-- ---- what firmware tells

-- Multiboot2: the screen, UEFI's system table and its memory map, SMBIOS
abbrev pub multiboot2_firmware : FirmwareFacts → SeenFirmwareFacts
multiboot2_firmware firmware = record {
  screen = firmware.screen;
  rsdp = None;
  efi_info = None;
  efi_tables = option_map efi_tables firmware.efi;
  smbios = firmware.smbios;
}

-- Linux: the screen, the address of ACPI's root pointer, UEFI's numbers
abbrev pub linux_firmware : FirmwareFacts → SeenFirmwareFacts
linux_firmware firmware = record {
  screen = firmware.screen;
  rsdp = firmware.rsdp;
  efi_info = option_map efi_info firmware.efi;
  efi_tables = None;
  smbios = None;
}

abbrev pub told_firmware : FirmwareFacts → Protocol → SeenFirmwareFacts
told_firmware firmware Multiboot2 = multiboot2_firmware firmware
told_firmware firmware Linux = linux_firmware firmware
told_firmware firmware Linux64 = linux_firmware firmware

-- ---- all

-- the entry's protocol, line, kernel, files and copies of the RSDP, the machine's runs, and what
-- firmware tells by this protocol
pub record ShowsEntry (facts : MachineFacts) (value : EntryValue) (seen : SeenFacts) : Type 0 where
  pub protocol : seen.protocol ≡ value.protocol
  pub line : seen.line ≡ value.line
  pub kernel : ShowsKernel facts value seen value.protocol
  pub files : ShowsFiles value seen value.protocol
  pub runs : seen.map ≡ facts.runs
  pub firmware : seen.firmware ≡ told_firmware facts.firmware value.protocol

-- each run of the memory map that is seen ends at most at 2^52
abbrev pub RunsEndLow : SeenFacts → Type 0
RunsEndLow seen = All (λ run. region_end run ≤ max_region_end) seen.map
