-- What an entry hands over on a machine, or its first refusal.
use Rattle.std.specs.Prelude.{◌≡◌, ℕ, ◌+◌, ◌-◌, List, [], map, slice_index_or, slice_range, ◌⊎◌}
use Rattle.std.specs.Prelude.{Option, Some, None, unwrap_or, codes}
use Rattle.bl_mem.specs.SegmentContents.{file_part}
use Rattle.bl_mem.specs.declared.segment.Segment.{Segment}
use Rattle.bl_map.specs.MachineFacts.{MachineFacts}
use Rattle.bl_mb2head.specs.declared.relocation.Relocation.{Relocation}
use Rattle.bl_mbi.specs.Spelling.{info_spelling}
use Rattle.bl_plan.specs.Placed.{ArePlaced, IsFirstPlaceFault}
use Rattle.bl_plan.specs.declared.part.Role.{Role}
use Rattle.bl_plan.specs.declared.part.Role.TheVariants.{Kernel, Module, Information, BootParams}
use Rattle.bl_plan.specs.declared.part.Role.TheVariants.{CommandLine, Gdt, Initrd, PageTables}
use Rattle.bl_plan.specs.declared.part.Place.{Place}
use Rattle.bl_plan.specs.declared.protocol.Protocol.{Protocol}
use Rattle.bl_plan.specs.declared.protocol.Protocol.TheVariants as protocols
use Rattle.bl_plan.specs.declared.fault.PlanFault.{PlanFault}
use Rattle.bl_plan.specs.declared.fault.PlanFault.TheVariants as plan_fault
use Rattle.bl_plan.specs.declared.part.Row.{Row}
use Rattle.bl_load.specs.declared.refusal.Refusal.{Refusal}
use Rattle.bl_load.specs.declared.refusal.Refusal.TheVariants as refusal
use Rattle.bl_load.specs.declared.registers.Registers.{Registers}
use Rattle.bl_load.specs.declared.registers.Registers.TheVariants.{Bits32, Bits64}
use Rattle.bl_load.specs.Addresses.{address_of}
use Rattle.bl_bzimage.specs.declared.setup.Setup.{Setup}
use Rattle.bl_params.specs.BootParams.{boot_params}
use Rattle.bl_params.specs.Paging.{paging}
use Rattle.bl_load.specs.EntryValue.{EntryValue, kernel_file, module_file, initrd_file, lines_fault}
use Rattle.bl_load.specs.EntryValue.{lines_of}
use Rattle.bl_load.specs.KernelReading.{KernelReading, multiboot2, linux, IsKernelReading}
use Rattle.bl_load.specs.KernelReading.{HasKernelFileFault}
use Rattle.bl_load.specs.KernelBlock.{low_of, block_of}
use Rattle.bl_load.specs.Rows.{rows_of, information_of}
use Rattle.bl_load.specs.LinuxRows.{boot_params_facts}
use Rattle.bl_load.specs.Registers.{multiboot2_registers, linux_registers, linux64_registers}
use Rattle.bl_load.specs.LinuxKernel.{entry_64}
use Rattle.bl_load.specs.Protocols.{descriptors_of}
use Rattle.bl_plan.specs.AddressOrder.{places_in_order}
use Rattle.bl_load.specs.Handover.{Part, Handover, placed_part, zero_padded}
use Rattle.bl_load.specs.declared.refusal.PrepFault.{PrepFault}
use Rattle.bl_load.specs.declared.refusal.PrepFault.TheVariants as prep_fault

-- what is read after the last segment
abbrev pub no_segment : Segment
no_segment = record { offset = 0; address = 0; filesz = 0; memsz = 0 }

-- what the kernel's part i holds before its zeros: the bytes of the file that its segment i names;
-- with a relocatable tag the whole block
abbrev pub kernel_content : List ℕ → List Segment → Option Relocation → ℕ → List ℕ
kernel_content file segments None i = file_part file (slice_index_or segments i no_segment)
kernel_content file segments (Some r) i = block_of file segments

-- what is loaded of a Linux kernel's file, up to its end (Linux/x86 Boot Protocol, "Loading The
-- Rest of The Kernel")
abbrev pub payload_of : List ℕ → Setup → List ℕ
payload_of file setup =
    slice_range file setup.payload_offset (setup.payload_offset + setup.payload_size)

-- what a part holds before its zeros, where the parts have these places; the zeros of a line's part
-- end the line
abbrev pub content_of : MachineFacts → EntryValue → KernelReading → List Place → Role → ℕ → List ℕ
content_of facts value (multiboot2 kernel) places Kernel i =
    kernel_content (kernel_file value) kernel.segments kernel.relocation i
content_of facts value (multiboot2 kernel) places Module i = module_file value.files i
content_of facts value (multiboot2 kernel) places Information i =
    info_spelling (codes "bootcore") (information_of facts value kernel.relocation places)
content_of facts value (multiboot2 kernel) places BootParams i = []
content_of facts value (multiboot2 kernel) places CommandLine i = []
content_of facts value (multiboot2 kernel) places Gdt i = []
content_of facts value (multiboot2 kernel) places Initrd i = []
content_of facts value (multiboot2 kernel) places PageTables i = []
content_of facts value (linux setup) places Kernel i = payload_of (kernel_file value) setup
content_of facts value (linux setup) places Module i = []
content_of facts value (linux setup) places Information i = []
content_of facts value (linux setup) places BootParams i =
    boot_params setup.header (boot_params_facts facts value places)
content_of facts value (linux setup) places CommandLine i = value.line
content_of facts value (linux setup) places Gdt i = unwrap_or (descriptors_of value.protocol) []
content_of facts value (linux setup) places Initrd i = initrd_file value.files
content_of facts value (linux setup) places PageTables i =
    paging (address_of PageTables 0 places)

-- the part of an entry at one of its places
abbrev pub part_from : MachineFacts → EntryValue → KernelReading → List Place → Place → Part
part_from facts value reading places place =
    placed_part place
    (zero_padded place.length (content_of facts value reading places place.role place.index))

-- where a Multiboot2 kernel is entered: a block moves its entry with it
abbrev pub entered_at : ℕ → List Segment → Option Relocation → ℕ → ℕ
entered_at entry segments None base = entry
entered_at entry segments (Some r) base = entry - low_of segments + base

-- where the kernel begins, where the parts have these places: a Linux kernel with its first byte,
-- behind which its 64-bit entry lies
abbrev pub kernel_entry_base : KernelReading → List Place → ℕ
kernel_entry_base (multiboot2 kernel) places =
    entered_at kernel.entry kernel.segments kernel.relocation (address_of Kernel 0 places)
kernel_entry_base (linux setup) places = address_of Kernel 0 places

-- the registers as the kernel begins, where the parts have these places
abbrev pub registers_of : Protocol → KernelReading → List Place → Registers
registers_of protocols.Multiboot2 reading places =
    Bits32
    (multiboot2_registers
    (kernel_entry_base reading places) (address_of Information 0 places))
registers_of protocols.Linux reading places =
    Bits32
    (linux_registers
    (kernel_entry_base reading places) (address_of BootParams 0 places) (address_of Gdt 0 places))
registers_of protocols.Linux64 reading places =
    Bits64
    (linux64_registers
    (kernel_entry_base reading places + entry_64) (address_of BootParams 0 places)
    (address_of Gdt 0 places)
    (address_of PageTables 0 places))

-- what an entry hands over, where its rows have these places
abbrev pub handover_of : MachineFacts → EntryValue → KernelReading → List Place → Handover
handover_of facts value reading places = record {
  protocol = value.protocol;
  registers = registers_of value.protocol reading places;
  parts = map (part_from facts value reading places) (places_in_order places);
}

-- this is what an entry of this value hands over on a machine of these facts
pub record IsHandover (facts : MachineFacts) (value : EntryValue)
    (handover : Handover) : Type 0 where
  pub reading : KernelReading
  pub places : List Place
  pub lines : lines_fault (lines_of value) ≡ None
  pub read : IsKernelReading facts value reading
  pub placed : ArePlaced facts [] (rows_of facts value reading) places
  pub is : handover ≡ handover_of facts value reading places

-- a fault of placing as a refusal; parts of a kernel that was read don't overlap one another
abbrev pub placing_refusal : PlanFault → Option Refusal
placing_refusal plan_fault.NotUsable = Some refusal.NotUsable
placing_refusal plan_fault.Overlap = None
placing_refusal plan_fault.NoRoom = Some refusal.NoRoom
placing_refusal plan_fault.NoMemory = None

-- the first of these rows that has no place is refused so
abbrev pub HasRowFault : MachineFacts → List Row → Refusal → Type 0
HasRowFault facts rows refused =
    (fault : PlanFault) × IsFirstPlaceFault facts [] rows fault
    × (placing_refusal fault ≡ Some refused)

-- the kernel is read, and one of the entry's rows is refused so
abbrev pub HasPlaceFault : MachineFacts → EntryValue → Refusal → Type 0
HasPlaceFault facts value refused =
    (reading : KernelReading) × IsKernelReading facts value reading
    × HasRowFault facts (rows_of facts value reading) refused

-- the first check refuses; or it does not, and the rest does
abbrev pub OrRefused : Option Refusal → (Refusal → Type 0) → Refusal → Type 0
OrRefused first rest refused = (first ≡ Some refused) ⊎ ((first ≡ None) × rest refused)

-- this is its first refusal: of its lines, its kernel, its places
abbrev pub IsRefusal : MachineFacts → EntryValue → Refusal → Type 0
IsRefusal facts value =
    OrRefused (lines_fault (lines_of value))
    (λ r. HasKernelFileFault facts value r ⊎ HasPlaceFault facts value r)

-- why an entry is not prepared, unless memory ran out
abbrev pub IsPrepFault : MachineFacts → EntryValue → PrepFault → Type 0
IsPrepFault facts value (prep_fault.Refused refused) = IsRefusal facts value refused
IsPrepFault facts value prep_fault.NoMemory = Unit {0}
