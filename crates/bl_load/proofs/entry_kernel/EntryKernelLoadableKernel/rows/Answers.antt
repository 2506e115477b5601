use Rattle.bl_load.proofs.entry_kernel.EntryKernelLoadableKernel.rows.Goals as goal

pub returns-in-Multiboot2 : goal.returns-in-Multiboot2
returns-in-Multiboot2 g c = rw c.in-Multiboot2.is c.rows.ensures
