use Rattle.bl_load.specs.internal.CheckedEntries.{value_of_files}
use Rattle.bl_load.specs.EntryValue.{kernel_file}
use Rattle.bl_bzimage.proofs.CheckLaws.{fixed_preferred}
use Rattle.bl_load.proofs.LinuxKernelLemmas.{setup_is}
use Rattle.bl_load.proofs.linux.SetupLoadableKernel.rows.Goals as goal

pub linux_rows-requires : goal.linux_rows-requires
linux_rows-requires g c = λ fixed.
    fixed_preferred (kernel_file (value_of_files c.args.entry.now)) c.args.self.now
    (setup_is c.requires.read.1) fixed
