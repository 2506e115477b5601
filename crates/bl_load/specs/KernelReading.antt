-- What is read of an entry's kernel: one case for each kind of file; or its first fault.
use Rattle.std.specs.Prelude.{◌≡◌, ◌⊎◌, Bool, true, is_some}
use Rattle.bl_map.specs.MachineFacts.{MachineFacts}
use Rattle.bl_bzimage.specs.declared.setup.Setup.{Setup}
use Rattle.bl_plan.specs.declared.protocol.Protocol.TheVariants.{Multiboot2}
use Rattle.bl_load.specs.declared.refusal.Refusal.{Refusal}
use Rattle.bl_load.specs.Protocols.{has_params}
use Rattle.bl_load.specs.EntryValue.{EntryValue, kernel_file}
use Rattle.bl_load.specs.Multiboot2Kernel.{Multiboot2KernelFacts, IsMultiboot2Kernel}
use Rattle.bl_load.specs.Multiboot2Kernel.{HasMultiboot2Fault}
use Rattle.bl_load.specs.LinuxKernel.{IsLinuxKernel, HasLinuxFault}

pub data KernelReading : Type 0 where
  multiboot2 : Multiboot2KernelFacts → KernelReading
  linux : Setup → KernelReading

-- firmware tells a screen, which may be a kernel's console
abbrev pub has_screen : MachineFacts → Bool
has_screen facts = is_some facts.firmware.screen

-- the kernel's file is read so, by the entry's protocol
abbrev pub IsKernelReading : MachineFacts → EntryValue → KernelReading → Type 0
IsKernelReading facts value (multiboot2 kernel) =
    (value.protocol ≡ Multiboot2)
    × IsMultiboot2Kernel (has_screen facts) (kernel_file value) kernel
IsKernelReading facts value (linux setup) =
    (has_params value.protocol ≡ true)
    × IsLinuxKernel value.protocol facts.runs value.line (kernel_file value) setup

-- its first fault, by the entry's protocol
abbrev pub HasKernelFileFault : MachineFacts → EntryValue → Refusal → Type 0
HasKernelFileFault facts value refused =
    ((value.protocol ≡ Multiboot2)
    × HasMultiboot2Fault (has_screen facts) (kernel_file value) refused)
    ⊎ ((has_params value.protocol ≡ true)
    × HasLinuxFault value.protocol facts.runs value.line (kernel_file value) refused)
