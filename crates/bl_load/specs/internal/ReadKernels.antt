-- What the code keeps of what was read of an entry's kernel.
use Rattle.std.specs.Prelude.{◌≡◌, ◌+◌, ◌<◌, ◌≤◌, ◌^◌, ◌%◌, ℕ, true, List, length}
use Rattle.bl_map.specs.Limits.{frame_size}
use Rattle.bl_map.specs.MachineFacts.{MachineFacts}
use Rattle.bl_map.specs.declared.region.Region.{Region}
use Rattle.bl_plan.specs.declared.part.Place.{Place}
use Rattle.bl_plan.specs.declared.protocol.Protocol.{Protocol}
use Rattle.bl_plan.specs.declared.protocol.Protocol.TheVariants.{Multiboot2}
use Rattle.bl_plan.specs.declared.part.Role.TheVariants as role
use Rattle.bl_load.specs.declared.refusal.PrepFault.{PrepFault}
use Rattle.bl_load.specs.declared.refusal.PrepFault.TheVariants as prep_fault
use Rattle.bl_load.specs.Addresses.{address_of}
use Rattle.bl_load.specs.KernelBlock.{low_of}
use Rattle.bl_load.specs.internal.ReadMultiboot2Kernels.{AreLoadable}
use Rattle.bl_load.specs.LinuxKernel.{HasLinuxFault}
use Rattle.bl_load.specs.Parts.{entered_at}
use Rattle.bl_load.specs.Protocols.{has_params}
use Rattle.bl_load.specs.internal.Placing.{ModulesEndLow}
use Rattle.bl_mem.specs.FileSet.{nth_file}
use Rattle.bl_load.specs.KernelReading.{KernelReading, multiboot2, linux, HasKernelFileFault}
use Rattle.bl_load.specs.EntryValue.{EntryValue, initrd_file}
use Rattle.bl_params.specs.SizesAndOffsets.{page_tables_size}

-- a kernel that was read so is entered by this protocol
abbrev pub EntersBy : Protocol → KernelReading → Type 0
EntersBy protocol (multiboot2 kernel) = protocol ≡ Multiboot2
EntersBy protocol (linux setup) = has_params protocol ≡ true

-- there are files for what was read, and so many modules; a Multiboot2 kernel's segments can be
-- loaded
abbrev pub HasFiles : List (List ℕ) → ℕ → KernelReading → Type 0
HasFiles texts modules (multiboot2 kernel) =
    (length texts ≡ 1 + modules) × AreLoadable (nth_file texts 0) kernel.segments
HasFiles texts modules (linux setup) = 1 ≤ length texts

-- page tables stand in whole frames below 4 GiB, as far as there are any
abbrev pub TablesFit : List Place → Type 0
TablesFit places =
    (address_of role.PageTables 0 places % frame_size ≡ 0)
    × (address_of role.PageTables 0 places + page_tables_size ≤ 2 ^ 32)

-- what is told of the parts fits 32 bits
abbrev pub ToldFits32Bits : EntryValue → KernelReading → List Place → Type 0
ToldFits32Bits value (multiboot2 kernel) places =
    ModulesEndLow value.files places (length value.module_lines)
ToldFits32Bits value (linux setup) places =
    (length (initrd_file value.files) < 2 ^ 32) × TablesFit places

-- where the kernel is entered fits 32 bits, and is reckoned without wrapping
abbrev pub EntryPointFits32Bits : KernelReading → List Place → Type 0
EntryPointFits32Bits (multiboot2 kernel) places =
    (low_of kernel.segments ≤ kernel.entry)
    × (kernel.entry + address_of role.Kernel 0 places < 2 ^ 64)
    × (entered_at kernel.entry kernel.segments kernel.relocation (address_of role.Kernel 0 places)
    < 2 ^ 32)
EntryPointFits32Bits (linux setup) places = Unit {0}

-- a fault of an entry's kernel as one of preparing: it stands, or memory ran out
abbrev pub IsKernelFault : MachineFacts → EntryValue → PrepFault → Type 0
IsKernelFault facts value (prep_fault.Refused refused) = HasKernelFileFault facts value refused
IsKernelFault facts value prep_fault.NoMemory = Unit {0}

-- a Linux kernel's fault as one of preparing: it stands, or memory ran out
abbrev pub IsLinuxFault : Protocol → List Region → List ℕ → List ℕ → PrepFault → Type 0
IsLinuxFault protocol runs line file (prep_fault.Refused refused) =
    HasLinuxFault protocol runs line file refused
IsLinuxFault protocol runs line file prep_fault.NoMemory = Unit {0}
