-- The state that a kernel is entered in (Multiboot2 3.3 "I386 machine state"; Linux/x86 boot
-- protocol, "32-bit Boot Protocol" and "64-bit Boot Protocol"). What the texts leave open is own.
use Rattle.std.specs.Prelude.{◌≡◌, ◌<◌, ◌^◌, ℕ, ◌==◌, Bool, true, false, List, length, Some}
use Rattle.std.specs.Option.{option_map_or}
use Rattle.bl_params.specs.Translation.{translation}
use Rattle.bl_plan.specs.declared.protocol.Protocol.{Protocol}
use Rattle.bl_plan.specs.declared.protocol.Protocol.TheVariants.{Multiboot2, Linux, Linux64}
use Rattle.bl_plan.specs.declared.part.Role.TheVariants.{Kernel}
use Rattle.bl_plan.specs.RoleNumbers.{role_number}
use Rattle.bl_load.specs.declared.registers.Registers.{Registers}
use Rattle.bl_load.specs.declared.registers.Registers.TheVariants.{Bits32, Bits64}
use Rattle.bl_load.specs.Protocols.{descriptors_of, is_wide}
use Rattle.bl_load.specs.Registers.{multiboot2_registers, linux_registers, linux64_registers}
use Rattle.bl_load.specs.Registers.{entry_in, information_in, params_in, gdt_in, page_tables_in}
use Rattle.bl_load.specs.Handover.{Part, Handover}
use Rattle.bl_walk.specs.PartBytes.{part_with, bytes_in}
use Rattle.bl_params.specs.SizesAndOffsets.{page_tables_size}

-- the registers that a kernel is entered with, where the ones that hold addresses hold those of `r`
abbrev pub entry_registers : Protocol → Registers → Registers
entry_registers Multiboot2 r = Bits32 (multiboot2_registers (entry_in r) (information_in r))
entry_registers Linux r = Bits32 (linux_registers (entry_in r) (params_in r) (gdt_in r))
entry_registers Linux64 r =
    Bits64 (linux64_registers (entry_in r) (params_in r) (gdt_in r) (page_tables_in r))

abbrev pub is_kernel : Part → Bool
is_kernel part = role_number part.role == role_number Kernel

-- whether an address lies in a part of the kernel
unfoldable pub is_in_kernel : List Part → ℕ → Bool
is_in_kernel parts address = option_map_or is_kernel (part_with parts address 1) false

-- the page tables that stand at an address translate each address below 4 GiB to itself
abbrev pub IsIdentityMapping : ℕ → List ℕ → Type 0
IsIdentityMapping base tables = (a : ℕ) → a < 2 ^ 32 → translation tables base a ≡ Some a

-- the kernel is entered in one of its parts, with these registers, with the descriptors that it is
-- handed, if any, and where it is entered with paging, with such page tables
pub record IsEntered (h : Handover) : Type 0 where
  pub registers : h.registers ≡ entry_registers h.protocol h.registers
  pub kernel : is_in_kernel h.parts (entry_in h.registers) ≡ true
  pub descriptors : (gdt : List ℕ) → descriptors_of h.protocol ≡ Some gdt
      → bytes_in h.parts (gdt_in h.registers) (length gdt) ≡ Some gdt
  pub paging : is_wide h.protocol ≡ true → (tables : List ℕ)
      × (bytes_in h.parts (page_tables_in h.registers) page_tables_size ≡ Some tables)
      × IsIdentityMapping (page_tables_in h.registers) tables
