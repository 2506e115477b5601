-- The kernel of an entry, as the code has read it.
use Rattle.bl_load.specs.KernelReading.{KernelReading, multiboot2, linux}
use Rattle.bl_load.specs.declared.entry_kernel.EntryKernel.{EntryKernel}
use Rattle.bl_load.specs.declared.entry_kernel.EntryKernel.TheVariants.{Multiboot2, Linux}
use Rattle.bl_load.specs.internal.ReadMultiboot2Kernels.{kernel_by}

abbrev pub reading_by : {A : Type 0} → EntryKernel A → KernelReading
reading_by (Multiboot2 kernel) = multiboot2 (kernel_by kernel)
reading_by (Linux setup) = linux setup
