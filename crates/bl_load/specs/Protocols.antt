-- What a kernel is handed by its protocol, beside its registers.
use Rattle.std.specs.Prelude.{ℕ, Bool, true, false, List, Option, Some, None}
use Rattle.bl_params.specs.Gdt.{gdt, gdt64}
use Rattle.bl_plan.specs.declared.protocol.Protocol.{Protocol}
use Rattle.bl_plan.specs.declared.protocol.Protocol.TheVariants.{Multiboot2, Linux, Linux64}

-- a kernel of the Linux boot protocol is handed boot parameters (Linux/x86 Boot Protocol, "32-bit
-- Boot Protocol")
abbrev pub has_params : Protocol → Bool
has_params Multiboot2 = false
has_params Linux = true
has_params Linux64 = true

-- a kernel is entered with 64 bits, with paging (Linux/x86 Boot Protocol, "64-bit Boot Protocol")
abbrev pub is_wide : Protocol → Bool
is_wide Multiboot2 = false
is_wide Linux = false
is_wide Linux64 = true

-- the descriptors of segments that a kernel is handed (Linux/x86 Boot Protocol, "32-bit Boot
-- Protocol" and "64-bit Boot Protocol": __BOOT_CS, __BOOT_DS); a Multiboot2 kernel is told of none
-- (Multiboot2 3.3 "I386 machine state": it loads its own)
abbrev pub descriptors_of : Protocol → Option (List ℕ)
descriptors_of Multiboot2 = None
descriptors_of Linux = Some gdt
descriptors_of Linux64 = Some gdt64
