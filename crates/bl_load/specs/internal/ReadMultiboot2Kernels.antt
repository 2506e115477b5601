-- What the code keeps of a kernel's file.
use Rattle.std.specs.Prelude.{◌≡◌, ◌+◌, ◌<◌, ◌≤◌, ◌^◌, ℕ, Bool, length, All, AllPairs, List, Option}
use Rattle.std.specs.Prelude.{Some, None}
use Rattle.bl_mem.specs.declared.segment.Segment.{Segment}
use Rattle.bl_elf.specs.Elf.{ElfFacts, AreApartSegments}
use Rattle.bl_elf.specs.declared.fault.ElfFault.{ElfFault}
use Rattle.bl_elf.specs.declared.fault.ElfFault.TheVariants as elf_fault
use Rattle.bl_load.specs.declared.multiboot2.kernel.Executable.{Executable}
use Rattle.bl_load.specs.declared.multiboot2.kernel.Executable.TheVariants.{AddressTag, Elf}
use Rattle.bl_load.specs.declared.multiboot2.kernel.Kernel.{Kernel}
use Rattle.bl_load.specs.declared.refusal.PrepFault.{PrepFault}
use Rattle.bl_load.specs.declared.refusal.PrepFault.TheVariants as prep_fault
use Rattle.bl_load.specs.KernelBlock.{span_of}
use Rattle.bl_load.specs.Multiboot2Kernel.{Multiboot2KernelFacts, HasElfRefusal, HasMultiboot2Fault}
use Rattle.bl_load.specs.Multiboot2Kernel.{elf_refusal, IsMultiboot2Kernel}

-- what was read

abbrev pub executable_facts : {A : Type 0} → Executable A → ElfFacts
executable_facts (AddressTag one) = record { segments = one; entry = None }
executable_facts (Elf elf) = elf

abbrev pub kernel_by : {A : Type 0} → Kernel A → Multiboot2KernelFacts
kernel_by kernel =
    record {
      segments = (executable_facts kernel.executable).segments;
      entry = kernel.entry;
      relocation = kernel.relocation;
    }

-- a fault of reading as one of preparing: it stands, or memory ran out
abbrev pub IsElfFault : ElfFault → PrepFault → Type 0
IsElfFault fault (prep_fault.Refused refused) = elf_refusal fault ≡ Some refused
IsElfFault fault prep_fault.NoMemory = fault ≡ elf_fault.NoMemory

abbrev pub IsElfRefusal : List ℕ → Option Segment → PrepFault → Type 0
IsElfRefusal file segment (prep_fault.Refused refused) = HasElfRefusal file segment refused
IsElfRefusal file segment prep_fault.NoMemory = Unit {0}

abbrev pub IsMultiboot2Fault : Bool → List ℕ → PrepFault → Type 0
IsMultiboot2Fault has_screen file (prep_fault.Refused refused) =
    HasMultiboot2Fault has_screen file refused
IsMultiboot2Fault has_screen file prep_fault.NoMemory = Unit {0}

-- own: a kernel has at most so many segments
abbrev pub max_segments : ℕ
max_segments = 128

-- what holds of the segments of a kernel with no fault: each takes memory, what it takes of the
-- file is there, it begins below 4 GiB; no two share a byte, and their block has a length of 64
-- bits
pub record AreLoadable (file : List ℕ) (segments : List Segment) : Type 0 where
  pub some : 1 ≤ length segments
  pub few : length segments ≤ max_segments
  pub filled : All (λ s. 1 ≤ s.memsz) segments
  pub fits : All (λ s. s.filesz ≤ s.memsz) segments
  pub in_file : All (λ s. 0 < s.filesz → s.offset + s.filesz ≤ length file) segments
  pub small : All (λ s. s.memsz < 2 ^ 64) segments
  pub low : All (λ s. s.address < 2 ^ 32) segments
  pub apart : AllPairs AreApartSegments segments
  pub span : span_of segments < 2 ^ 64

-- this is what was read of a kernel's file, which can be loaded
pub record IsKernelOf (has_screen : Bool) (file : List ℕ) (kernel : Multiboot2KernelFacts)
    : Type 0 where
  pub is : IsMultiboot2Kernel has_screen file kernel
  pub loadable : AreLoadable file kernel.segments
