use Rattle.std.proofs.Common.{refl}
use Rattle.bl_load.proofs.multiboot2.KernelLoadableKernel.registers.Goals as goal

pub returns : goal.returns
returns g c =
    rw (
      c.requires.protocol,
      c.multiboot2_registers.ensures,
      c.entered_at-entry.ensures,
      c.address_of-base.ensures,
      c.address_of-information.ensures,
    ) refl
