-- What the registers hold that an entry's kernel is entered with.
use Rattle.std.proofs.Common.{◌≡◌, ◌+◌, ℕ, true, List, Some, arith, refl}
use Rattle.bl_plan.specs.declared.part.Place.{Place}
use Rattle.bl_plan.specs.declared.part.Role.TheVariants.{Information, BootParams, Gdt, PageTables}
use Rattle.bl_plan.specs.declared.protocol.Protocol.{Protocol}
use Rattle.bl_plan.specs.declared.protocol.Protocol.TheVariants.{Multiboot2, Linux, Linux64}
use Rattle.bl_load.specs.Addresses.{address_of}
use Rattle.bl_load.specs.LinuxKernel.{entry_64}
use Rattle.bl_load.specs.Parts.{registers_of, kernel_entry_base}
use Rattle.bl_load.specs.Protocols.{has_params, descriptors_of, is_wide}
use Rattle.bl_load.specs.KernelReading.{KernelReading}
use Rattle.bl_load.specs.Registers.{entry_in, information_in, params_in, gdt_in, page_tables_in}
use Rattle.bl_walk.specs.State.{entry_registers}

-- how many bytes after the first one a kernel is entered
abbrev pub entry_offset : Protocol → ℕ
entry_offset Multiboot2 = 0
entry_offset Linux = 0
entry_offset Linux64 = entry_64

module _ (reading : KernelReading) (places : List Place) where
  pub as_entered : (p : Protocol)
      → registers_of p reading places ≡ entry_registers p (registers_of p reading places)
  as_entered Multiboot2 = refl
  as_entered Linux = refl
  as_entered Linux64 = refl

  pub entered_from : (p : Protocol)
      → entry_in (registers_of p reading places) ≡ kernel_entry_base reading places + entry_offset p
  entered_from Multiboot2 = omega arith
  entered_from Linux = omega arith
  entered_from Linux64 = refl

  pub information_from : (p : Protocol) → p ≡ Multiboot2
      → information_in (registers_of p reading places) ≡ address_of Information 0 places
  information_from Multiboot2 is = refl
  information_from Linux is = absurd (cc)
  information_from Linux64 is = absurd (cc)

  pub params_from : (p : Protocol) → has_params p ≡ true
      → params_in (registers_of p reading places) ≡ address_of BootParams 0 places
  params_from Multiboot2 handed = absurd (cc)
  params_from Linux handed = refl
  params_from Linux64 handed = refl

  pub gdt_from : (p : Protocol) (gdt : List ℕ) → descriptors_of p ≡ Some gdt
      → gdt_in (registers_of p reading places) ≡ address_of Gdt 0 places
  gdt_from Multiboot2 gdt handed = absurd (cc)
  gdt_from Linux gdt handed = refl
  gdt_from Linux64 gdt handed = refl

  pub tables_from : (p : Protocol) → is_wide p ≡ true
      → page_tables_in (registers_of p reading places) ≡ address_of PageTables 0 places
  tables_from Multiboot2 wide = absurd (cc)
  tables_from Linux wide = absurd (cc)
  tables_from Linux64 wide = refl
