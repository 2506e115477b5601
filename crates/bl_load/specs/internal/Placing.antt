-- What the code keeps of an entry's rows and their places.
use Rattle.std.specs.Prelude.{◌≡◌, ◌+◌, ◌<◌, ◌≤◌, ℕ, true, List, [], ◌∷◌, ◌++◌, ◌^◌, suc, min, max}
use Rattle.std.specs.Prelude.{length, slice_index_or, Option, Some, None, option_map}
use Rattle.bl_mem.specs.declared.segment.Segment.{Segment}
use Rattle.bl_map.specs.MachineFacts.{MachineFacts}
use Rattle.bl_map.specs.PoolFrames.{round_up_to_frames}
use Rattle.bl_mb2head.specs.declared.relocation.Relocation.{Relocation}
use Rattle.bl_mbi.specs.InfoToWriteFacts.{info_size}
use Rattle.bl_plan.specs.declared.part.Role.{Role}
use Rattle.bl_plan.specs.declared.part.Role.TheVariants.{Kernel, Module, Information, BootParams}
use Rattle.bl_plan.specs.declared.part.Role.TheVariants.{CommandLine, Gdt, Initrd, PageTables}
use Rattle.bl_plan.specs.declared.part.Choice.TheVariants.{Lowest, Highest}
use Rattle.bl_map.specs.Limits.{frame_size, first_usable, max_size, high_start, usable_limit}
use Rattle.bl_mbi.specs.Size.{tag_size}
use Rattle.bl_params.specs.SizesAndOffsets.{page_tables_size}
use Rattle.bl_load.specs.Multiboot2Kernel.{Multiboot2KernelFacts}
use Rattle.bl_plan.specs.declared.protocol.Protocol.{Protocol}
use Rattle.bl_plan.specs.declared.part.Row.{Row}
use Rattle.bl_plan.specs.declared.part.Place.{Place}
use Rattle.bl_plan.specs.declared.fault.PlanFault.{PlanFault}
use Rattle.bl_plan.specs.declared.fault.PlanFault.TheVariants as plan_fault
use Rattle.bl_plan.specs.Placed.{ArePlaced}
use Rattle.bl_load.specs.declared.refusal.PrepFault.{PrepFault}
use Rattle.bl_load.specs.declared.refusal.PrepFault.TheVariants as prep_fault
use Rattle.bl_load.specs.Addresses.{address_of}
use Rattle.bl_load.specs.EntryValue.{EntryValue, module_file, initrd_file}
use Rattle.bl_load.specs.KernelReading.{KernelReading, multiboot2, linux}
use Rattle.bl_bzimage.specs.declared.setup.Setup.{Setup}
use Rattle.bl_load.specs.LinuxRows.{linux_kernel_row, front_rows}
use Rattle.bl_load.specs.KernelBlock.{span_of}
use Rattle.bl_load.specs.Protocols.{is_wide}
use Rattle.bl_load.specs.Rows.{kernel_rows, module_length, information_row, rows_of, information_of}
use Rattle.bl_load.specs.Handover.{Handover}
use Rattle.bl_load.specs.Parts.{no_segment, handover_of, HasRowFault, placing_refusal}

-- a place ends at or below the last frame of 4 GiB
abbrev pub EndsLow : Place → Type 0
EndsLow place = place.address + place.length ≤ 0xFFFFF000

-- the length of the kernel's part i
abbrev pub HasKernelLength : List Segment → Option Relocation → ℕ → ℕ → Type 0
HasKernelLength segments None i count =
    (i < length segments) × (count ≡ (slice_index_or segments i no_segment).memsz)
HasKernelLength segments (Some r) i count = count ≡ span_of segments

-- the length of the part of a role and an index
abbrev pub HasLength : MachineFacts → EntryValue → KernelReading → Role → ℕ → ℕ → Type 0
HasLength facts value (multiboot2 kernel) Kernel i count =
    HasKernelLength kernel.segments kernel.relocation i count
HasLength facts value (multiboot2 kernel) Information i count =
    count ≡ round_up_to_frames (info_size (information_of facts value kernel.relocation []))
HasLength facts value (multiboot2 kernel) Module i count =
    (i < length value.module_lines) × (count ≡ module_length (module_file value.files i))
HasLength facts value (multiboot2 kernel) BootParams i count = ⊥
HasLength facts value (multiboot2 kernel) CommandLine i count = ⊥
HasLength facts value (multiboot2 kernel) Gdt i count = ⊥
HasLength facts value (multiboot2 kernel) Initrd i count = ⊥
HasLength facts value (multiboot2 kernel) PageTables i count = ⊥
HasLength facts value (linux setup) Kernel i count = count ≡ (linux_kernel_row setup).length
HasLength facts value (linux setup) Module i count = ⊥
HasLength facts value (linux setup) Information i count = ⊥
HasLength facts value (linux setup) BootParams i count = count ≡ frame_size
HasLength facts value (linux setup) CommandLine i count = count ≡ frame_size
HasLength facts value (linux setup) Gdt i count = count ≡ frame_size
HasLength facts value (linux setup) Initrd i count =
    (1 ≤ length (initrd_file value.files))
    × (count ≡ round_up_to_frames (length (initrd_file value.files)))
HasLength facts value (linux setup) PageTables i count =
    (is_wide value.protocol ≡ true) × (count ≡ page_tables_size)

abbrev pub HasRowLength : MachineFacts → EntryValue → KernelReading → Place → Type 0
HasRowLength facts value reading place =
    HasLength facts value reading place.role place.index place.length

-- why its parts are not placed, unless memory ran out
abbrev pub IsPlaceFault : MachineFacts → List Row → PrepFault → Type 0
IsPlaceFault facts rows (prep_fault.Refused refused) = HasRowFault facts rows refused
IsPlaceFault facts rows prep_fault.NoMemory = Unit {0}

-- a fault of placing as one of preparing: its refusal, or want of memory
abbrev pub as_prep_fault : PlanFault → Option PrepFault
as_prep_fault plan_fault.NoMemory = Some prep_fault.NoMemory
as_prep_fault fault = option_map (λ refused. prep_fault.Refused refused) (placing_refusal fault)

-- the rows have these places, and this is handed over
pub record IsPlacedHandover (facts : MachineFacts) (value : EntryValue) (reading : KernelReading)
    (handover : Handover) : Type 0 where
  pub places : List Place
  pub placed : ArePlaced facts [] (rows_of facts value reading) places
  pub is : handover ≡ handover_of facts value reading places

-- ---- what the code tells of a file that no machine can hold

-- the most bytes of a file that the code tells of
abbrev pub length_cap : ℕ
length_cap = 2 ^ 40

abbrev pub capped_length : ℕ → ℕ
capped_length size = round_up_to_frames (max (min size length_cap) 1)

-- the rows of modules as the code tells them
abbrev pub capped_module_rows : List (List ℕ) → ℕ → List (List ℕ) → List Row
capped_module_rows files k [] = []
capped_module_rows files k (line ∷ lines) = record {
  role = Module;
  index = k;
  length = capped_length (length (module_file files k));
  choice = Lowest frame_size high_start max_size;
} ∷ capped_module_rows files (suc k) lines

-- the rows of an entry as the code tells them
abbrev pub capped_multiboot2_rows : MachineFacts → EntryValue → Multiboot2KernelFacts → List Row
capped_multiboot2_rows facts value kernel =
    kernel_rows kernel.segments kernel.relocation
    ++ (capped_module_rows value.files 0 value.module_lines
    ++ information_row facts value kernel.relocation ∷ [])

-- a kernel that can't be moved runs from 1 MiB on, and below 4 GiB
abbrev pub IsFixedAbove : Setup → Type 0
IsFixedAbove setup =
    setup.relocatable_kernel ≡ 0
    → (high_start ≤ setup.pref_address) × (setup.pref_address < 2 ^ 32)

-- the row of an initrd of so many bytes as the code tells it
abbrev pub capped_initrd_row : Setup → ℕ → Row
capped_initrd_row setup size = record {
  role = Initrd;
  index = 0;
  length = capped_length size;
  choice = Highest frame_size first_usable (setup.initrd_addr_max + 1);
}

abbrev pub capped_initrd_rows : Setup → List ℕ → List Row
capped_initrd_rows setup [] = []
capped_initrd_rows setup (byte ∷ bytes) = capped_initrd_row setup (length (byte ∷ bytes)) ∷ []

-- the rows of a Linux entry as the code tells them
abbrev pub capped_linux_rows : Protocol → Setup → List ℕ → List Row
capped_linux_rows protocol setup initrd =
    front_rows protocol setup ++ capped_initrd_rows setup initrd

-- by what was read of the kernel
abbrev pub capped_rows_of : MachineFacts → EntryValue → KernelReading → List Row
capped_rows_of facts value (multiboot2 kernel) = capped_multiboot2_rows facts value kernel
capped_rows_of facts value (linux setup) =
    capped_linux_rows value.protocol setup (initrd_file value.files)

-- ---- how long the tags of modules are

abbrev pub module_tags_size : List (List ℕ) → ℕ
module_tags_size [] = 0
module_tags_size (line ∷ lines) = tag_size (length line + 9) + module_tags_size lines

-- each of so many modules ends below the last frame of 4 GiB
abbrev pub ModulesEndLow : List (List ℕ) → List Place → ℕ → Type 0
ModulesEndLow files places count =
    (k : ℕ) → k < count → address_of Module k places + length (module_file files k) ≤ usable_limit
